-- Messages (JSON-RPC 2.0).
use Rattle.std.specs.Prelude.{ℕ, List, codes, if◌then◌else◌, Option, Some, None, is_some, option_and_then, option_map, unwrap_or}
use Rattle.serde_json.specs.Data.{Data}
use Rattle.serde_json.specs.Find.{as_str, get}
use Rattle.serde_json.specs.View.{view}
use Rattle.rc_lsp.specs.declared.message.Message.{Message}
use Rattle.rc_lsp.specs.declared.message.Message.TheVariants.{Request, Notification, Response, Other}

-- the string at a key
abbrev pub string_in : List ℕ → Data → Option (List ℕ)
string_in key whole = option_and_then as_str (get key whole)

-- what a value says under `params`; itself if it has none
abbrev pub params_of : Data → Data
params_of whole = unwrap_or (get (codes "params") whole) whole

-- A notification has a method and no id: the method, and the parameters.
abbrev pub notification_of : Data → Option (List ℕ × Data)
notification_of whole = if is_some (get (codes "id") whole) then None else option_map (λ method. (method, params_of whole)) (string_in (codes "method") whole)

abbrev pub notification : Message → Option (List ℕ × Data)
notification (Request id method params) = None
notification (Notification method params) = Some (method.now, view params.now)
notification Response = None
notification (Other id fault) = None
