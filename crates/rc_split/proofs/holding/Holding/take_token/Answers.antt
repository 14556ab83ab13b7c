use Rattle.std.proofs.Common.{◌<◌, sym, ◌∙◌, length}
use Rattle.rc_lang.specs.Views.{seen}
use Rattle.rc_split.proofs.Tokens.{place_within, token_taken}
use Rattle.rc_split.proofs.holding.Holding.take_token.Goals as goal

pub returns : goal.returns
returns c =
    let s = c.self.inside in
    let e = sym c.token_place.ensures ∙ c.in_ok-place.was in
    let lt : c.in_ok-place.place < length (seen s.view).tokens = place_within (seen s.view).tokens c.args.user_data c.in_ok-place.place e in
    rw (← c.self.view_is) (token_taken (seen s.view) s.rows.shares s.rows.marks c.mark.new.marks s.rows.credits c.args.user_data c.in_ok-place.place e c.mark.ensures (sym c.is_marked.ensures ∙ c.if-not-is_marked.false))
