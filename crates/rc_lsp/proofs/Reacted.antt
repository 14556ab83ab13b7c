-- What is done at a message.
use Rattle.std.proofs.Common.{◌≡◌, ℕ, Bool, true, false, List, [], None, Result, Ok, Err, inl, inr, refl, subst, sym}
use Rattle.std.specs.Prelude.{◌⊎◌}
use Rattle.std.specs.Global.{Vec}
use Rattle.rc_report.specs.Text.{PutsSome}
use Rattle.rc_lsp.specs.declared.documents.Documents.{Documents}
use Rattle.rc_lsp.specs.declared.message.Message.{Message}
use Rattle.rc_lsp.specs.Messages.{notification}
use Rattle.rc_lsp.specs.Reactions.{IsAnswer, Reacts, report_in}

pub still : (running : Bool) (old : Documents) (text : List ℕ) → ((text ≡ []) ⊎ IsAnswer text) → Reacts (report_in running None) old old text
still true old text quiet = ((λ uri. refl), quiet)
still false old text quiet = ((λ uri. refl), quiet)

pub nothing_done : (old : Documents) → Reacts None old old []
nothing_done old = ((λ uri. refl), inl refl)

pub nothing_said : (running : Bool) (message : Message) (old : Documents) → notification message ≡ None → Reacts (report_in running (notification message)) old old []
nothing_said running message old none = subst (λ n. Reacts (report_in running n) old old []) (sym none) (still running old [] (inl refl))

pub answered : {X E : Type 0} (running : Bool) (message : Message) (old new : Documents) (before after : Vec ℕ) (r : Result X E) → notification message ≡ None → new ≡ old
    → PutsSome IsAnswer before after r → PutsSome (Reacts (report_in running (notification message)) old new) before after r
answered running message old new before after (Ok x) none same (text, is, e) =
    (text, subst (λ (d : Documents). Reacts (report_in running (notification message)) old d text) (sym same) (subst (λ n. Reacts (report_in running n) old old text) (sym none) (still running old text (inr is))), e)
answered running message old new before after (Err x) none same put = tt
