-- Where a thread comes to rest: lines that are no events lead on, and no thread hops for ever.
use Rattle.std.proofs.Common.{ℕ, zero, suc, Bool, false, ◌||◌, ◌≡◌, ◌+◌, ◌<◌, ◌≤◌, length, Option, Some, None, option_map, refl, sym, ap, ◌∙◌, arith}
use Rattle.std.proofs.lemmas.Option.{same_Some}
use Rattle.std.proofs.Math.Bool.{or-false, or_assoc}
use Rattle.rc_lang.specs.declared.lines.Stmt.{Stmt}
use Rattle.rc_lang.specs.declared.lines.Stmt.TheVariants.{Else, EndIf, EndArm}
use Rattle.rc_lang.specs.Program.{Program, lines_of, end_at, stmt_at}
use Rattle.rc_lang.specs.Kept.{IsProgram}
use Rattle.rc_lang.proofs.Lookups.{stands_within}
use Rattle.rc_world.proofs.Laid.{IsBelow, arm_leads, else_leads, laid}
use Rattle.rc_world.specs.Changes.{hop_at}
use Rattle.rc_world.specs.Controls.{hop_of, is_arm_end, or_from, settled, ends_arm, rest_at, passes_arm}

-- A line that is no event leads to a place below it.
pub record Falls (P : Program) (i j k : ℕ) : Type 0 where
  pub here : j < length (lines_of P i)
  pub below : j < k
  pub within : k ≤ length (lines_of P i)

pub falls : (P : Program) → IsProgram P → (i j k : ℕ) → hop_of P i j (stmt_at (lines_of P i) j) ≡ Some k → Falls P i j k
falls P made i j k e = go (stmt_at (lines_of P i) j) refl e
  where
    behind : (s : Stmt) (end : ℕ) → stmt_at (lines_of P i) j ≡ Some s → IsBelow (lines_of P i) j end → end + 1 ≡ k → Falls P i j k
    behind s end h b q =
        let lt : j < end = b.below in
        let n : end < length (lines_of P i) = b.within in
        record { here = stands_within (lines_of P i) j s h; below = omega arith; within = omega arith }

    go : (s : Option Stmt) → stmt_at (lines_of P i) j ≡ s → hop_of P i j s ≡ Some k → Falls P i j k
    go None h q = absurd (cc)
    go (Some (Else o)) h q = behind (Else o) (end_at P i j) h (else_leads (lines_of P i) _ (laid P made i) j o h) (same_Some _ _ q)
    go (Some (EndIf o)) h q =
        let n : j + 1 ≡ k = same_Some _ _ q in
        let lt : j < length (lines_of P i) = stands_within (lines_of P i) j (EndIf o) h in
        record { here = lt; below = omega arith; within = omega arith }
    go (Some (EndArm o)) h q = behind (EndArm o) (end_at P i o) h (arm_leads (lines_of P i) _ (laid P made i) j o h) (same_Some _ _ q)
    go (Some _) h q = absurd (cc)

-- ---- the loop over lines that are no events

hop_parts : (o : Option ℕ) (b c : Bool) (k : ℕ) → option_map {U = ℕ × Bool} (λ (n : ℕ). (n, b)) o ≡ Some (k, c) → (o ≡ Some k) × (b ≡ c)
hop_parts None b c k e = absurd (cc)
hop_parts (Some n) b c k e = let p = same_Some _ _ e in (ap (λ (x : ℕ × Bool). Some x.0) p, ap (λ (x : ℕ × Bool). x.1) p)

no_hop_at : (o : Option ℕ) (b : Bool) → option_map {U = ℕ × Bool} (λ (n : ℕ). (n, b)) o ≡ None → o ≡ None
no_hop_at None b e = refl
no_hop_at (Some n) b e = absurd (cc)

no_arm : (P : Program) (i j : ℕ) (s : Option Stmt) → hop_of P i j s ≡ None → is_arm_end s ≡ false
no_arm P i j None e = refl
no_arm P i j (Some (EndArm o)) e = absurd (cc)
no_arm P i j (Some _) e = refl

-- A thread that went to the place `start` has come to this place, over the end of an arm or not, and goes on from here.
pub record IsOnTheWay (P : Program) (i start place : ℕ) (ended : Bool) : Type 0 where
  pub fuel : ℕ
  pub enough : length (lines_of P i) ≤ fuel + place
  pub goes : settled P i fuel place ≡ rest_at P i start
  pub ends : (ended || ends_arm P i fuel place) ≡ passes_arm P i start

pub sets_out : (P : Program) (i start : ℕ) → IsOnTheWay P i start start false
sets_out P i start = record { fuel = length (lines_of P i); enough = omega arith; goes = refl; ends = refl }

hop_fuel : (P : Program) (i place next n : ℕ) → place < length (lines_of P i) → length (lines_of P i) ≤ n + place → hop_of P i place (stmt_at (lines_of P i) place) ≡ Some next
    → (m : ℕ) × (n ≡ suc m) × (settled P i n place ≡ settled P i m next) × (ends_arm P i n place ≡ (is_arm_end (stmt_at (lines_of P i) place) || ends_arm P i m next))
hop_fuel P i place next zero lt le e = absurd (omega arith)
hop_fuel P i place next (suc m) lt le e = (
  m,
  refl,
  ap (or_from place (λ k. settled P i m k)) e,
  ap (λ h. is_arm_end (stmt_at (lines_of P i) place) || or_from false (λ k. ends_arm P i m k) h) e,
)

pub record Hops (P : Program) (i start place next : ℕ) (ended : Bool) : Type 0 where
  pub way : IsOnTheWay P i start next ended
  pub here : place < length (lines_of P i)
  pub falls : place < next

pub hops : (P : Program) → IsProgram P → (i start place next : ℕ) (ended ends : Bool) → IsOnTheWay P i start place ended → hop_at P i place ≡ Some (next, ends) → Hops P i start place next (ended || ends)
hops P made i start place next ended ends w e =
    let h = hop_parts _ _ _ _ e in
    let f = falls P made i place next h.0 in
    let here : place < length (lines_of P i) = f.here in
    let below : place < next = f.below in
    let enough : length (lines_of P i) ≤ w.fuel + place = w.enough in
    let m = hop_fuel P i place next w.fuel here enough h.0 in
    let n : w.fuel ≡ suc m.0 = m.1 in
    record {
      way = record {
        fuel = m.0;
        enough = omega arith;
        goes = sym m.2 ∙ w.goes;
        ends = or_assoc ended ends (ends_arm P i m.0 next) ∙ ap (λ b. ended || (b || ends_arm P i m.0 next)) (sym h.1) ∙ ap (λ b. ended || b) (sym m.3) ∙ w.ends;
      };
      here = here;
      falls = below;
    }

rests_by : (P : Program) (i place n : ℕ) → hop_of P i place (stmt_at (lines_of P i) place) ≡ None → (settled P i n place ≡ place) × (ends_arm P i n place ≡ false)
rests_by P i place zero e = (refl, refl)
rests_by P i place (suc m) e = (
  ap (or_from place (λ k. settled P i m k)) e,
  ap (λ b. b || or_from false (λ k. ends_arm P i m k) (hop_of P i place (stmt_at (lines_of P i) place))) (no_arm P i place (stmt_at (lines_of P i) place) e)
      ∙ ap (or_from false (λ k. ends_arm P i m k)) e,
)

pub rests : (P : Program) (i start place : ℕ) (ended : Bool) → IsOnTheWay P i start place ended → hop_at P i place ≡ None → (place ≡ rest_at P i start) × (ended ≡ passes_arm P i start)
rests P i start place ended w e =
    let r = rests_by P i place w.fuel (no_hop_at _ _ e) in
    (sym r.0 ∙ w.goes, sym (ap (λ b. ended || b) r.1 ∙ or-false ended) ∙ w.ends)
