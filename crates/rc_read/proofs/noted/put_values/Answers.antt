use Rattle.std.proofs.Common.{◌≡◌, ◌+◌, List, ◌∷◌, [], ◌++◌, ◌||◌, Some, drop, get_or, sym, ap, ◌∙◌, append_assoc}
use Rattle.std.proofs.lemmas.List.{drop_more}
use Rattle.rc_read.proofs.Among.{items_first}
use Rattle.rc_read.proofs.Judged.{adds_one}
use Rattle.rc_read.proofs.Numbered.{sheet_on, values_on, lacks_on, unknown_on, double_on, full_on}
use Rattle.rc_read.specs.declared.values.Item.{Item}
use Rattle.rc_read.specs.declared.values.Value.{Value}
use Rattle.rc_read.specs.declared.noted.Wrong.{Wrong}
use Rattle.rc_read.specs.Sentences.{any_unknown, any_double, any_full}
use Rattle.rc_read.specs.Sheets.{with_names}
use Rattle.rc_read.specs.Spots.{Spot}
use Rattle.rc_read.specs.Texts.{view_spot, view_spots}
use Rattle.rc_read.specs.Values.{value_at, values_of, items_in, any_lacks}
use Rattle.rc_read.specs.View.{view_sheet}
use Rattle.rc_read.proofs.noted.put_values.Goals as goal

pub loop-spot-preserved : goal.loop-spot-preserved
loop-spot-preserved c =
    let l = c.loop-spot in
    let spots = c.args.spots.now in
    let t = with_names (view_sheet c.args.parts.now) (view_spots spots) in
    let s = view_sheet l.parts in
    let seen = l.noted.seen in
    let wrong = l.noted.wrong in
    let next = c.look_at.new.noted.seen in
    let v = c.in-Some.value in
    let ps = view_spots (drop (l.spot-index + 1) spots) in
    let cut = drop_more spots l.spot-index _ c.loop-spot-test.true in
    let r : view_spots (drop l.spot-index spots) ≡ view_spot (get_or spots l.spot-index _) ∷ ps = ap view_spots cut in
    let p = view_spot (get_or spots l.spot-index _) in
    let e : with_names s (p ∷ ps) ≡ t = ap (λ (x : List Spot). with_names s x) (sym r) ∙ l.invariant.sheet in
    let says : Some v ≡ value_at s seen p.part p.word = sym c.in-Some.is ∙ c.in_ok-says.ensures.value in
    let one : values_of t seen (p ∷ ps) ≡ v ∷ values_of t next ps = values_on p ps s t seen next v e says c.in_ok-says.ensures.seen in
    let at = c.in_ok-says.ensures.wrong in
    record {
      names = adds_one (view_sheet c.args.parts.now) s (view_sheet c.look_at.new.parts) p l.invariant.names c.in_ok-says.ensures.sheet;
      sheet = sheet_on p ps s t (view_sheet c.look_at.new.parts) e c.in_ok-says.ensures.sheet;
      values = ap (λ (x : List Value). x ++ values_of t next ps) c.in_ok-push.ensures.items ∙ append_assoc l.values.items (v ∷ []) (values_of t next ps) ∙ ap (λ (x : List Value). l.values.items ++ x) (sym one) ∙ ap (λ (x : List Spot). l.values.items ++ values_of t seen x) (sym r) ∙ l.invariant.values;
      items = ap (λ (x : List Item). x ++ items_in (values_of t next ps)) c.in_ok-push_if_item.ensures ∙ append_assoc l.items.items (items_in (v ∷ [])) (items_in (values_of t next ps)) ∙ ap (λ (x : List Item). l.items.items ++ x) (sym (items_first v (values_of t next ps))) ∙ ap (λ (x : List Value). l.items.items ++ items_in x) (sym one) ∙ ap (λ (x : List Spot). l.items.items ++ items_in (values_of t seen x)) (sym r) ∙ l.invariant.items;
      lacks = sym (lacks_on p ps s t seen next v e says c.in_ok-says.ensures.seen) ∙ ap (λ (x : List Spot). any_lacks t seen x) (sym r) ∙ l.invariant.lacks;
      unknown = ap (λ (x : Wrong). x.unknown || any_unknown t ps) at ∙ unknown_on p ps s t wrong.unknown (any_unknown t (view_spots spots)) e (ap (λ (x : List Spot). wrong.unknown || any_unknown t x) (sym r) ∙ l.invariant.unknown);
      double = ap (λ (x : Wrong). x.double || any_double t ps) at ∙ double_on p ps s t wrong.double (any_double t (view_spots spots)) e (ap (λ (x : List Spot). wrong.double || any_double t x) (sym r) ∙ l.invariant.double);
      full = ap (λ (x : Wrong). x.full || any_full t ps) at ∙ full_on p ps s t wrong.full (any_full t (view_spots spots)) e (ap (λ (x : List Spot). wrong.full || any_full t x) (sym r) ∙ l.invariant.full);
    }

pub returns-in_default-clause-names : goal.returns-in_default-clause-names
returns-in_default-clause-names c =
    let l = c.loop-spot in
    adds_one (view_sheet c.args.parts.now) (view_sheet l.parts) (view_sheet c.look_at.new.parts) (view_spot (get_or c.args.spots.now l.spot-index _)) l.invariant.names c.in_ok-says.ensures.sheet

pub returns-clause-names : goal.returns-clause-names
returns-clause-names c = c.loop-spot.invariant.names
