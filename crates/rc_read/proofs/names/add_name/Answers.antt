use Rattle.std.proofs.Common.{◌≡◌, ℕ, List, nat_eq, refl, ap, ◌∙◌, rules, arith}
use Rattle.std.specs.Cmp.Lexicographic.{pointwise}
use Rattle.std.specs.Global.{Vec}
use Rattle.std.specs.List.{position_or_len}
use Rattle.rc_read.specs.Sheets.{number_in}
use Rattle.rc_lang.specs.Parts.{view_names}
use Rattle.rc_read.proofs.Numbered.{is_old}
use Rattle.rc_read.proofs.Seen.{numbered, found, with_one}
use Rattle.rc_read.proofs.names.add_name.Goals as goal

place : (c : goal.In-Some) → c.in-Some.number ≡ number_in (view_names c.args.names.now.keys) c.args.word.now
place c = found _ _ _ c.in-Some.ensures.index ∙ numbered c.args.names.now.keys c.args.word.now

pub returns-in-Some-clause-number : goal.returns-in-Some-clause-number
returns-in-Some-clause-number c = place c

pub returns-in-Some-clause-names : goal.returns-in-Some-clause-names
returns-in-Some-clause-names c = rw (is_old c.args.names.now.keys c.args.word.now (λ e. omega (arith, place c, e, c.in-Some.ensures.within))) refl

pub returns-clause-number : goal.returns-clause-number
returns-clause-number c =
    c.in_ok-number.ensures.index
    ∙ ap (λ (v : List ℕ). position_or_len (λ (k : Vec ℕ). pointwise nat_eq v k.items) c.args.names.now.keys) (search rules)
    ∙ numbered c.args.names.now.keys c.args.word.now

pub returns-clause-names : goal.returns-clause-names
returns-clause-names c = ap view_names c.in_ok-number.ensures.keys ∙ with_one c.args.names.now.keys _ c.args.word.now (search rules)
