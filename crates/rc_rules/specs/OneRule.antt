-- Lines that are one rule for each side of a state.
use Rattle.std.specs.Prelude.{ℕ, Bool, true, false, List, [], ◌∷◌, Option, Result}
use Rattle.rc_lang.specs.declared.lines.Op.{Op}
use Rattle.rc_lang.specs.declared.lines.Op.TheVariants as ops
use Rattle.rc_lang.specs.declared.lines.Stmt.{Stmt}
use Rattle.rc_lang.specs.declared.lines.Stmt.TheVariants as stmts
use Rattle.rc_lang.specs.declared.lines.Test.TheVariants.{Take as Taken}
use Rattle.rc_lang.specs.Parts.{view_items}
use Rattle.rc_lang.specs.Program.{Program, Items}
use Rattle.rc_lang.specs.Kept.{IsItems}
use Rattle.rc_lang.specs.Resolved.{DeclaresToken}
use Rattle.rc_split.specs.Bags.{Part}
use Rattle.rc_split.specs.Holdings.{Holding, bag}
use Rattle.rc_rules.specs.declared.cause.Cause.{Cause}
use Rattle.rc_rules.specs.declared.mode.Mode.{Mode}
use Rattle.rc_rules.specs.declared.mode.Peeked.TheVariants.{Unseen, SeesOther}
use Rattle.rc_rules.specs.declared.rule.Rule.{Rule}
use Rattle.rc_rules.specs.declared.rule.Rule.TheVariants.{Do, Put, Lock, Release, If, Take, Case, Other, Nothing}
use Rattle.rc_rules.specs.Labels.{Label, Live}
use Rattle.rc_rules.specs.Needs.{line_premises}
use Rattle.rc_rules.specs.Premises.{Premise}
use Rattle.rc_rules.specs.Rules.{asks, asks_both, goes, op_effect, put_effect, entered, released, test_mode, take_effect, peek_at, case_at}
use Rattle.rc_rules.specs.States.{State, Side, Follows, Gives, GivesSide, IsSmall, Leaves, label_of, program_of, side_label}

-- the line, where a list of items has the number 0, and the lists; an arm asks what its peek does
abbrev pub line_of : Rule → Stmt
line_of (Do op) = stmts.Do op
line_of (Put pool items) = stmts.Put pool 0
line_of (Lock l) = stmts.Lock l
line_of (Release l) = stmts.EndLock 0 l
line_of (If test) = stmts.If test
line_of (Take pool items) = stmts.If (Taken pool 0)
line_of _ = stmts.Peek 0

abbrev pub lists_of : Rule → List Items
lists_of (Put pool items) = view_items items.now ∷ []
lists_of _ = []

abbrev pub rule_premises : Program → Rule → (Part → ℕ) → Mode → List (ℕ × Premise)
rule_premises P rule bag m = line_premises P (lists_of rule) bag m (line_of rule)

-- Of a test it is what is known of the ring; what a take brings is told by its own rule.
abbrev pub rule_effect : Program → Rule → (Part → ℕ) → Mode → Label
rule_effect P (Do op) bag m = op_effect P bag m op
rule_effect P (Put pool items) bag m = put_effect bag m (view_items items.now)
rule_effect P (Lock l) bag m = entered P l (Live bag m)
rule_effect P (Release l) bag m = released l (Live bag m)
rule_effect P (If test) bag m = Live bag (test_mode P test m)
rule_effect P (Take pool items) bag m = take_effect P bag m (view_items items.now)
rule_effect P (Case u) bag m = case_at u (Live bag m)
rule_effect P Other bag m = peek_at SeesOther (Live bag m)
rule_effect P Nothing bag m = peek_at Unseen (Live bag m)

-- A rule of a line on a holding, on a side and on a state; and what it leaves where its premises hold.
abbrev pub LeavesBy : Holding → Holding → Option Mode → Rule → Mode → Type 0
LeavesBy old new left rule m = Leaves old new left (rule_effect old.program rule (bag old) m)

abbrev pub FollowsBy : Holding → Holding → Result (Option Mode) Cause → Rule → Mode → Type 0
FollowsBy old new result rule m = Follows old new result (rule_premises old.program rule (bag old) m) (rule_effect old.program rule (bag old) m)

abbrev pub SideGoes : Program → Rule → Side → Side → Result (Unit {0}) Cause → Type 0
SideGoes P rule old new r = GivesSide old new r (asks (side_label old) (λ b m. rule_premises P rule b m)) (goes (side_label old) (λ b m. rule_effect P rule b m))

abbrev pub StateGoes : Rule → State → State → Result (Unit {0}) Cause → Type 0
StateGoes rule old new r = Gives old new r (asks_both (label_of old) (λ z b m. rule_premises (program_of old) rule b m)) (λ z. goes (label_of old z) (λ b m. rule_effect (program_of old) rule b m) ∷ [])

-- whether a statement only computes: it asks for nothing, and what is held and known of the ring stays
abbrev pub only_computes : Op → Bool
only_computes (ops.Set x n) = true
only_computes (ops.Assign x y) = true
only_computes (ops.Add x y z) = true
only_computes (ops.Subtract x y z) = true
only_computes (ops.Print x) = true
only_computes _ = false

-- what a rule is handed: counts that stay small where a request is reaped or items are taken, those of a program, and a
-- declared token
abbrev pub MayFollow : Program → Rule → Label → Type 0
MayFollow P (Do op) s = IsSmall s
MayFollow P (Take pool items) s = IsItems P (view_items items.now) × IsSmall s
MayFollow P (Case u) s = DeclaresToken P u
MayFollow P _ s = Unit {0}
