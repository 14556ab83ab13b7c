-- Worlds whose readers answer the same.
use Rattle.std.proofs.Common.{◌≡◌, ℕ, suc, ◌<◌, ◌&&◌, Bool, true, false, List, [], ◌∷◌, length, map, Option, Some, None, nat_lt, option_map, slice_get, refl, sym, ap, ◌∙◌, arith}
use Rattle.std.proofs.lemmas.Bool.{ltb-true}
use Rattle.std.proofs.lemmas.Option.{same_Some, slice_get-map}
use Rattle.rc_lang.specs.declared.request.Request.{Request}
use Rattle.rc_world.specs.Controls.{Standing}
use Rattle.rc_world.specs.Machine.{World}
use Rattle.rc_world.specs.Readers.{variable_in}
use Rattle.rc_runs.specs.Closing.{AreLikeStandings, HasSameParts, IfBoth, IsLike, IsSameThread, matters, still, still_standing, with_threads}

-- The same thread, as it is read.
record IsReadSame (kept : List Bool) (i : ℕ) (o p : Option Standing) : Type 0 where
  place : option_map (λ (t : Standing). t.place) o ≡ option_map (λ (t : Standing). t.place) p
  variables : (x : ℕ) → x < 64 → matters kept i x ≡ true → variable_in o x ≡ variable_in p x

below : (kept : List Bool) (i x : ℕ) → matters kept i x ≡ true → x < 64
below kept i x m = ltb-true x 64 (first (nat_lt x 64) _ m)
  where
    first : (a b : Bool) → (a && b) ≡ true → a ≡ true
    first true b h = refl
    first false b h = absurd (cc)

like_standing : (kept : List Bool) (i : ℕ) (o p : Option Standing) → option_map still_standing o ≡ option_map still_standing p → IsReadSame kept i o p → IfBoth (AreLikeStandings kept i) o p
like_standing kept i None None left same = tt
like_standing kept i None (Some u) left same = absurd (cc)
like_standing kept i (Some t) None left same = absurd (cc)
like_standing kept i (Some t) (Some u) left same = record {
  place = same_Some _ _ same.place;
  many = ap (λ (s : Standing). s.place) (same_Some _ _ left);
  same = λ x m. same.variables x (below kept i x m) m;
}

module _ (kept : List Bool) (a b : World) (left : still b ≡ still a) where
  pub like_world : HasSameParts a b → ((i : ℕ) → IsSameThread kept a b i) → IsLike kept a b
  like_world parts threads =
      let ts : List Standing = a.controls.threads in
      let lists : map still_standing a.controls.threads ≡ map still_standing b.controls.threads = ap (λ (w : World). w.controls.threads) (sym left) in
      let controls : a.controls ≡ record b.controls { threads = ts } =
      ap (λ h. record a.controls { holders = h }) parts.holders
      ∙ ap (λ l. record a.controls { holders = b.controls.holders; look = l }) parts.look
      ∙ ap (λ p. record b.controls { threads = ts; pools = p }) (ap (λ (w : World). w.controls.pools) (sym left))
      in
      record {
        rest =
            ap (λ x. record a { program = x }) (ap (λ (w : World). w.program) (sym left))
            ∙ ap (λ x. record a { program = b.program; controls = x }) controls
            ∙ ap (λ x. record (with_threads b ts) { slot = x; queued = a.queued; pending = a.pending; completed = a.completed; completions = a.completions; made = a.made; buffers = a.buffers }) parts.slot
            ∙ ap (λ x. record (with_threads b ts) { queued = x; pending = a.pending; completed = a.completed; completions = a.completions; made = a.made; buffers = a.buffers }) (ap (λ (w : World). w.queued) (sym left))
            ∙ ap (λ x. record (with_threads b ts) { pending = x; completed = a.completed; completions = a.completions; made = a.made; buffers = a.buffers }) (ap (λ (w : World). w.pending) (sym left))
            ∙ ap (λ x. record (with_threads b ts) { completed = x; completions = a.completions; made = a.made; buffers = a.buffers }) parts.completed
            ∙ ap (λ x. record (with_threads b ts) { completions = x; made = a.made; buffers = a.buffers }) (ap (λ (w : World). w.completions) (sym left))
            ∙ ap (λ x. record (with_threads b ts) { made = x; buffers = a.buffers }) (ap (λ (w : World). w.made) (sym left))
            ∙ ap (λ x. record (with_threads b ts) { buffers = x }) (ap (λ (w : World). w.buffers) (sym left));
        threads = λ i.
            let same : option_map still_standing (slice_get a.controls.threads i) ≡ option_map still_standing (slice_get b.controls.threads i) =
            sym (slice_get-map still_standing a.controls.threads i) ∙ ap (λ (xs : List Standing). slice_get xs i) lists ∙ slice_get-map still_standing b.controls.threads i
            in
            like_standing kept i (slice_get a.controls.threads i) (slice_get b.controls.threads i) same (record { place = (threads i).place; variables = (threads i).variables });
      }

pub same_requests : (xs ys : List Request) → length xs ≡ length ys → ((k : ℕ) → k < length xs → slice_get xs k ≡ slice_get ys k) → xs ≡ ys
same_requests [] [] many same = refl
same_requests [] (y ∷ ys) many same = absurd (cc)
same_requests (x ∷ xs) [] many same = absurd (cc)
same_requests (x ∷ xs) (y ∷ ys) many same =
    let first : x ≡ y = same_Some x y (same 0 (omega arith)) in
    let others : xs ≡ ys = same_requests xs ys (omega (arith, many)) (λ k within. same (suc k) (omega arith)) in
    ap (λ (r : Request). r ∷ xs) first ∙ ap (λ (rs : List Request). y ∷ rs) others
