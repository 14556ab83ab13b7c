use Rattle.std.proofs.Common.{◌≡◌, ℕ, List, Some, if◌then◌else◌, true, string_bytes, subst, sym}
use Rattle.std.specs.BTreeMap.{get_by_text}
use Rattle.std.specs.Str.{bytes_eq}
use Rattle.rc_lsp.specs.Documents.{has_room, text_of}
use Rattle.rc_lsp.proofs.Changed.{given, items_in}
use Rattle.rc_lsp.proofs.Room.{stays_within}
use Rattle.rc_lsp.proofs.documents.Documents.keep.Goals as goal

pub invariant_of-self : goal.invariant_of-self
invariant_of-self c =
    let room = subst (λ (uri : List ℕ). has_room uri c.args.self.now ≡ true) (sym c.in_ok-name.ensures.ok) c.requires in
    record { within = stays_within (string_bytes c.in_ok-name.name) c.args.self.now.texts c.insert.new.self c.insert.result room c.args.self.now.within c.insert.ensures.old c.insert.ensures.len c.insert.ensures.err }

pub returns-clause-others : goal.returns-clause-others
returns-clause-others c =
    let sets = given (string_bytes c.in_ok-name.name) c.args.uri.now c.args.self.now.texts c.insert.new.self (Some c.in_ok-text.text) c.in_ok-name.ensures.ok c.in_ok-insert.ensures.updates in
    λ other. subst (λ (bytes : List ℕ). items_in (get_by_text c.insert.new.self other) ≡ (if bytes_eq c.args.uri.now other then Some bytes else text_of other c.args.self.now)) c.in_ok-text.ensures.items (sets other)
