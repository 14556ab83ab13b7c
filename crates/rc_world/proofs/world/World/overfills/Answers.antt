use Rattle.std.proofs.Common.{◌≡◌, ◌+◌, ◌<◌, ◌≤◌, length, map, nat_le, not, slice_get, sym, ap, ◌∙◌, arith, List}
use Rattle.std.proofs.lemmas.List.{length-map}
use Rattle.rc_lang.specs.Parts.{view_items}
use Rattle.rc_lang.specs.Program.{Items, lists_of}
use Rattle.rc_lang.proofs.Reading.{list_alone}
use Rattle.rc_split.specs.Bags.{Credit}
use Rattle.rc_split.specs.Pools.{Pool, Pools, all_pooled, in_all, overfills}
use Rattle.rc_world.specs.Controls.{variables_in}
use Rattle.rc_world.proofs.Pooling.{part_is, past_items}
use Rattle.rc_world.proofs.world.World.overfills.Goals as goal

pub returns-in-Some : goal.returns-in-Some
returns-in-Some c =
    let P = c.self.inside.program.now in
    let parts = c.lists_of.result.now in
    let lists = lists_of P c.args.thread in
    let pools = c.self.inside.controls.pools in
    let vars = variables_in (slice_get c.self.inside.controls.threads c.args.thread) in
    let found = c.in-Some.ensures.lookup in
    let within : c.args.k < length parts = found.3.0 in
    let many : length (map view_items parts) ≡ length parts = length-map parts view_items in
    let same : length (map view_items parts) ≡ length lists = ap (λ (xs : List Items). length xs) c.lists_of.ensures.value in
    let lt : c.args.k < length lists = omega arith in
    let is = part_is parts lists c.args.k c.in-Some.items.now c.lists_of.ensures.value lt (found.3.1 c.in-Some.items.now) ∙ sym (list_alone P c.lists_of.ensures.made c.args.thread vars c.args.k) in
    rw (← c.self.view_is)
    (c.are_overfilled_by.ensures ∙ ap (λ (x : Pools). overfills P (all_pooled P x) (view_items c.in-Some.items.now)) c.pools-pools.ensures ∙ ap (overfills P (all_pooled P pools)) is)

pub returns-in-None : goal.returns-in-None
returns-in-None c =
    let P = c.self.inside.program.now in
    let pools = c.self.inside.controls.pools in
    let past : length c.lists_of.result.now ≤ c.args.k = c.in-None.ensures.lookup.3 in
    let vars = variables_in (slice_get c.self.inside.controls.threads c.args.thread) in
    let none = list_alone P c.lists_of.ensures.made c.args.thread vars c.args.k ∙ past_items c.lists_of.result.now (lists_of P c.args.thread) c.args.k c.lists_of.ensures.value past in
    let credits : c.credits.result ≡ all_pooled P pools Credit = c.credits.ensures.value ∙ ap (in_all (λ (p : Pool). p.credits)) c.pools-pools.ensures in
    let more : c.credits.result ≡ all_pooled P pools Credit + 0 = omega (arith, credits) in
    let entries : c.from.result ≡ P.completion_entries = c.from.ensures ∙ c.completion_entries.ensures.value in
    rw (← c.self.view_is)
    (ap (λ n. not (nat_le c.credits.result n)) entries ∙ ap (λ n. not (nat_le n P.completion_entries)) more ∙ sym (ap (overfills P (all_pooled P pools)) none))
