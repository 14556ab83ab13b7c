-- Programs as their threads name them.
use Rattle.std.specs.Prelude.{ℕ, ◌≤◌, length, map, nat_eq, All}
use Rattle.std.specs.List.{IsDistinct}
use Rattle.rc_lang.specs.declared.program.Token.{Token}
use Rattle.rc_lang.specs.declared.view.View.{View}
use Rattle.rc_lang.specs.Kinds.{kinds_in}
use Rattle.rc_lang.specs.Program.{Buffer, Program, Stock, Thread}
use Rattle.rc_lang.specs.Kept.{IsTokenKind}
use Rattle.rc_lang.specs.Resolved.{IsRingSize}

-- The program as the lines of thread i name its parts. Each thread names them as they are declared.
abbrev pub view_of : Program → ℕ → Program
view_of P i = P

-- what is seen by a view
abbrev pub seen : View → Program
seen view = view_of view.program.now view.thread

-- A buffer has 1 to 4,096 bytes in 1 to 16 shares, whatever it is called.
pub record IsSized (buffer : Buffer) : Type 0 where
  pub bytes : (1 ≤ buffer.bytes) × (buffer.bytes ≤ 4096)
  pub shares : (1 ≤ buffer.shares) × (buffer.shares ≤ 16)

-- What the rules rely on: how large the rings are, how many buffers, tokens, lines of pools, threads and credits there
-- are at most, and that the names of tokens are resolved and each is there once. Names and lines are of the program
-- alone.
pub record IsView (view : Program) : Type 0 where
  pub entries : IsRingSize 1024 view.entries
  pub completion_entries : IsRingSize 2048 view.completion_entries
  pub few_buffers : length view.buffers ≤ 64
  pub buffers : All IsSized view.buffers
  pub few_tokens : length view.tokens ≤ 256
  pub tokens : All (λ (t : Token). All (IsTokenKind view) (kinds_in t)) view.tokens
  pub distinct_tokens : IsDistinct nat_eq (map (λ (t : Token). t.user_data) view.tokens)
  pub few_stock : length view.stock ≤ 17
  pub few_stocked : All (λ (s : Stock). s.items.credits ≤ 2048) view.stock
  pub few_threads : length view.threads ≤ 64
  pub few_credits : All (λ (t : Thread). t.items.credits ≤ 2048) view.threads
