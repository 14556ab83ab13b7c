use Rattle.std.proofs.Common.{◌<◌, sym, ◌∙◌, length}
use Rattle.rc_lang.specs.Views.{seen}
use Rattle.rc_split.proofs.Tokens.{mark_held, place_within}
use Rattle.rc_split.proofs.holding.Holding.mark.Goals as goal

pub returns-in-Some : goal.returns-in-Some
returns-in-Some c =
    let s = c.self.inside in
    let e = sym c.token_place.ensures ∙ c.in-Some.is in
    let lt : c.in-Some.place < length (seen s.view).tokens = place_within (seen s.view).tokens c.args.user_data c.in-Some.place e in
    rw (← c.self.view_is) (mark_held (seen s.view) s.rows.shares s.rows.marks c.mark.new.marks s.rows.credits c.args.user_data c.in-Some.place c.args.held e c.mark.ensures)
