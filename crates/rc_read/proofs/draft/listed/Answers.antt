use Rattle.std.proofs.Common.{◌≡◌, ◌∙◌, ◌++◌, ap}
use Rattle.indexmap.proofs.CallerLemmas.{Drains-YieldsInOrder}
use Rattle.rc_read.proofs.draft.listed.Goals as goal

pub returns : goal.returns
returns c =
    let ran = c.in_ok-extend.ensures.ran in
    let all : ran.1 ≡ c.args.names.keys = Drains-YieldsInOrder _ _ ran.0 ran.1 ran.2.2 ran.4 ∙ ran.2.0 in
    ran.3.0 ∙ ap (λ xs. c.in_ok-list.list.items ++ xs) all ∙ ap (λ xs. xs ++ c.args.names.keys) c.in_ok-list.ensures.items
