-- Frames: how messages follow each other on a stream.
use Rattle.std.specs.Prelude.{ℕ, ◌≡◌, List, ◌++◌, codes, decimal, length}
use Rattle.serde_json.specs.Data.{Data}
use Rattle.serde_json.specs.Written.{IsInOrder}

-- A frame is a head, which says how many bytes the body has, and the body.
abbrev pub frame : List ℕ → List ℕ
frame body = codes "Content-Length: " ++ decimal (length body) ++ codes "\r\n\r\n" ++ body

-- A frame with a message, in JSON.
abbrev pub Carries : Data → List ℕ → Type 0
Carries whole text = (body : List ℕ) × IsInOrder body whole × (text ≡ frame body)
