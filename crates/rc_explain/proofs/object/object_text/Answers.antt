use Rattle.std.proofs.Common.{subst}
use Rattle.std.specs.Prelude.{option_copied, string_bytes}
use Rattle.serde_json.specs.Data.{object}
use Rattle.serde_json.specs.View.{members_view}
use Rattle.serde_json.specs.Written.{IsInOrder}
use Rattle.serde_json.proofs.Views.{view-Object}
use Rattle.rc_explain.proofs.Objects.{file_is_named}
use Rattle.rc_explain.proofs.object.object_text.Goals as goal

pub returns : goal.returns
returns c =
    let members = c.put_file.new.members in
    let json = string_bytes c.in_ok-object.object in
    let told = file_is_named (option_copied c.args.file) c.args.explanation.now.verdict c.in_ok-members.members members c.in_ok-put_file.ensures c.in_ok-members.ensures in
    (object (members_view members.entries), told.0, told.1, subst (λ d. IsInOrder json d) (view-Object members) c.in_ok-object.ensures.order, c.in_ok-object.ensures.compact)
