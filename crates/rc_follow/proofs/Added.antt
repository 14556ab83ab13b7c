-- Worlds that are added to others, and those to which hidden steps lead.
use Rattle.std.proofs.Common.{subst, get_or, drop, suc, take, ◌≡◌, ℕ, List, [], ◌∷◌, ◌++◌, Option, Some, None, refl, sym, ap, inl, inr, append_assoc, append-nil, ◌∙◌}
use Rattle.std.specs.Prelude.{All, Contains, IfOk, IfSome, Result, Ok, Err}
use Rattle.std.specs.declared.alloc.AllocError.{AllocError}
use Rattle.std.specs.List.{remove}
use Rattle.std.proofs.lemmas.List.Elements.{Contains-get_or, All-append, All-cons, All-contains, All-drop, All-nil, All-same, All-take, All-weaker}
use Rattle.rc_lang.specs.declared.lines.Line.{Line}
use Rattle.rc_lang.specs.Program.{Program}
use Rattle.rc_log.specs.declared.call.Call.{Call}
use Rattle.rc_world.specs.Applies.{Advances}
use Rattle.rc_world.specs.declared.event.Event.{Event}
use Rattle.rc_world.specs.declared.event.Item.{Item}
use Rattle.rc_world.specs.declared.event.Item.TheVariants.{Thread, Kernel}
use Rattle.rc_world.specs.Items.{item_bytes, item_step, kernel_item, pending_place, given_at}
use Rattle.std.specs.Prelude.{slice_get}
use Rattle.rc_world.specs.Controls.{next_line}
use Rattle.rc_world.specs.Machine.{World}
use Rattle.rc_world.specs.WeakRuns.{IsWeakStep}
use Rattle.rc_follow.specs.declared.kept.Found.{Found}
use Rattle.rc_follow.specs.Followed.{Asks, Calls, Noted}
use Rattle.rc_follow.specs.Follower.{Adds, ComesBy, ComesFrom, IsHiddenStep, LeadsBy}
use Rattle.rc_follow.specs.Searches.{AsksIn, MayAdd, Visits}
use Rattle.rc_follow.specs.Ways.{Leads, Makes, Way, made_by}
use Rattle.rc_follow.proofs.Runs.{hides_join}

-- ---- steps

pub item_is_weak : (w v : World) (i : Item) (e : Event) → item_step w i ≡ Some (e, v) → IsWeakStep w e v
item_is_weak w v (Thread i take) e h = inl (i, given_at w take (next_line w.program w.controls i), h)
item_is_weak w v (Kernel u res fill) e h = at (pending_place w u) h
  where
    at : (k : Option ℕ) → kernel_item w res fill k ≡ Some (e, v) → IsWeakStep w e v
    at None f = absurd (cc)
    at (Some k) f = inr (inl (k, res, item_bytes res fill (slice_get w.pending k), f))

pub advance_is_weak : (w v : World) (i : Item) (r : Result (Option Event) AllocError) → Advances w i v r → IfOk r (λ event. IfSome event (λ e. IsWeakStep w e v))
advance_is_weak w v i (Ok (Some e)) h = item_is_weak w v i e h.1
advance_is_weak w v i (Ok None) h = tt
advance_is_weak w v i (Err refused) h = tt

pub leads_one : (n : Noted) (w v : Way) → IsHiddenStep n w v → Leads n w v
leads_one n w v h = (h.0 ∷ [], (v.world, h.1, h.2, refl), h.3)

pub leads_none : (n : Noted) (w : Way) → Leads n w w
leads_none n w = ([], refl, refl)

pub leads_both : (n : Noted) (w v u : Way) → Leads n w v → Leads n v u → Leads n w u
leads_both n w v u h k = (h.0 ++ k.0, hides_join n w.world v.world u.world h.0 k.0 h.1 k.1, k.2 ∙ h.2)

-- ---- added

pub adds_none : (F : Way → Type 0) (ws : List Way) → Adds F ws ws
adds_none F ws = ([], sym (append-nil ws), All-nil F)

pub adds_same : (F : Way → Type 0) (old new : List Way) → new ≡ old → Adds F old new
adds_same F old new e = ([], e ∙ sym (append-nil old), All-nil F)

pub adds_both : (F : Way → Type 0) (a b c : List Way) → Adds F a b → Adds F b c → Adds F a c
adds_both F a b c h k = (h.0 ++ k.0, k.1 ∙ ap (λ (x : List Way). x ++ k.0) h.1 ∙ append_assoc a h.0 k.0, All-append F h.0 k.0 h.2 k.2)

pub adds_push : (F : Way → Type 0) (w : Way) (old new : List Way) → F w → new ≡ old ++ w ∷ [] → Adds F old new
adds_push F w old new f h = (w ∷ [], h, All-cons F w [] f (All-nil F))

pub adds_one : (F : Way → Type 0) (w : Way) (old new : List Way) → F w → MayAdd w old new → Adds F old new
adds_one F w old new f h = elim h [
  | inl e ↦ ([], e ∙ sym (append-nil old), All-nil F)
  | inr e ↦ adds_push F w old new f e
]

pub adds_weaker : (F G : Way → Type 0) → ((w : Way) → F w → G w) → (old new : List Way) → Adds F old new → Adds G old new
adds_weaker F G k old new h = (h.0, h.1, All-weaker F G k h.0 h.2)

pub all_added : (F : Way → Type 0) (old new : List Way) → All F old → Adds F old new → All F new
all_added F old new a h = All-same F new (old ++ h.0) h.1 (All-append F old h.0 a h.2)

-- one is taken away
pub all_without : (F : Way → Type 0) (old new : List Way) (i : ℕ) → new ≡ remove old i → All F old → All F new
all_without F old new i e h = All-same F new (remove old i) e (All-append F (take i old) (drop (suc i) old) (All-take F i old h) (All-drop F (suc i) old h))

pub all_of : (F : Way → Type 0) (old new : List Way) → All (Contains old) new → All F old → All F new
all_of F old new h k = All-weaker (Contains old) F (λ w at. All-contains F old w k at) new h

-- ---- where it comes from

pub by_both : (P : Program) (n : Noted) (w v u : Way) (i : ℕ) (call : Call) → Leads n w v → LeadsBy P n v i call u → LeadsBy P n w i call u
by_both P n w v u i call h k = (k.0, leads_both n w v k.0 h k.1, k.2)

pub from_both : (n : Noted) (ws : List Way) (v u : Way) → ComesFrom n ws v → Leads n v u → ComesFrom n ws u
from_both n ws v u h k = (h.0, h.1, leads_both n h.0 v u h.2 k)

pub comes_both : (P : Program) (n : Noted) (ws : List Way) (v u : Way) (i : ℕ) (call : Call) → ComesFrom n ws v → LeadsBy P n v i call u → ComesBy P n ws i call u
comes_both P n ws v u i call h k = (h.0, h.1, by_both P n h.0 v u i call h.2 k)

-- ---- lines

pub asked : (P : Program) (n : Noted) (w : Way) (i : ℕ) (call : Call) → Asks P n w.world i call → LeadsBy P n w i call w
asked P n w i call a = (w, leads_none n w, inr (a, refl))

pub is_call : (P : Program) (n : Noted) (w v : Way) (i : ℕ) (call : Call) → Makes P n w i call v → LeadsBy P n w i call v
is_call P n w v i call c = (w, leads_none n w, c)

pub makes_call : (P : Program) (n : Noted) (w m v : Way) (i : ℕ) (call : Call) (line : Option Line) → Calls n w.world i call m.world → m.made ≡ w.made
    → line ≡ next_line w.world.program w.world.controls i → v ≡ record m { made = made_by line m.made } → Makes P n w i call v
makes_call P n w m v i call line c e f g =
    subst (λ (x : Way). Makes P n w i call x) (sym g) (inl (c, ap (λ made. made_by line made) e ∙ ap (λ l. made_by l w.made) f))

-- ---- visits

pub visits_none : (P : Program) (n : Noted) (w : Way) (i : ℕ) (call : Call) (f : Found) → Visits P n w i call f f
visits_none P n w i call f = (adds_none (LeadsBy P n w i call) f.worlds.items, adds_none (Leads n w) f.todo.items)

pub visits_both : (P : Program) (n : Noted) (w : Way) (i : ℕ) (call : Call) (a b c : Found) → Visits P n w i call a b → Visits P n w i call b c → Visits P n w i call a c
visits_both P n w i call a b c h k = (adds_both (LeadsBy P n w i call) a.worlds.items b.worlds.items c.worlds.items h.0 k.0, adds_both (Leads n w) a.todo.items b.todo.items c.todo.items h.1 k.1)

pub visits_from : (P : Program) (n : Noted) (w v : Way) (i : ℕ) (call : Call) (a b : Found) → Leads n w v → Visits P n v i call a b → Visits P n w i call a b
visits_from P n w v i call a b l h = (
  adds_weaker (LeadsBy P n v i call) (LeadsBy P n w i call) (λ u k. by_both P n w v u i call l k) a.worlds.items b.worlds.items h.0,
  adds_weaker (Leads n v) (Leads n w) (λ u k. leads_both n w v u l k) a.todo.items b.todo.items h.1,
)

pub visits_one : (P : Program) (n : Noted) (w v : Way) (i : ℕ) (call : Call) (a b : Found) → LeadsBy P n w i call v → MayAdd v a.worlds.items b.worlds.items → b.todo.items ≡ a.todo.items → Visits P n w i call a b
visits_one P n w v i call a b l h e =
    (adds_one (LeadsBy P n w i call) v a.worlds.items b.worlds.items l h, ([], e ∙ sym (append-nil a.todo.items), All-nil (Leads n w)))

-- what a visit says of each program it says of this one
pub of_one : (F : Program → Type 0) (P : Program) (r : Result (Option Way) AllocError) → IfOk r (λ _. (Q : Program) → F Q) → IfOk r (λ _. F P)
of_one F P (Ok next) h = h P
of_one F P (Err refused) h = tt

-- ---- searches

-- a world that comes from these is looked at
pub found_more : (P : Program) (n : Noted) (ws : List Way) (w : Way) (i : ℕ) (call : Call) (a b : Found) → ComesFrom n ws w → Visits P n w i call a b → All (ComesBy P n ws i call) a.worlds.items → All (ComesBy P n ws i call) b.worlds.items
found_more P n ws w i call a b f h k =
    all_added (ComesBy P n ws i call) a.worlds.items b.worlds.items k (adds_weaker (LeadsBy P n w i call) (ComesBy P n ws i call) (λ u l. comes_both P n ws w u i call f l) a.worlds.items b.worlds.items h.0)

pub todo_more : (P : Program) (n : Noted) (ws : List Way) (w : Way) (i : ℕ) (call : Call) (a b : Found) → ComesFrom n ws w → Visits P n w i call a b → All (ComesFrom n ws) a.todo.items → All (ComesFrom n ws) b.todo.items
todo_more P n ws w i call a b f h k =
    all_added (ComesFrom n ws) a.todo.items b.todo.items k (adds_weaker (Leads n w) (ComesFrom n ws) (λ u l. from_both n ws w u f l) a.todo.items b.todo.items h.1)

pub stay_found : (P : Program) (n : Noted) (ws : List Way) (i : ℕ) (call : Call) → All (AsksIn P n i call) ws → All (ComesBy P n ws i call) ws
stay_found P n ws i call h k d lt = (get_or ws k d, Contains-get_or ws k d lt, asked P n (get_or ws k d) i call (h k d lt))
