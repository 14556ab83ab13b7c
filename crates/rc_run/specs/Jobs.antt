-- Jobs: requests that are with a device, and what they own.
use Rattle.std.specs.Prelude.{ℕ, ℤ, pos, negsuc, ◌≡◌, ◌≤◌, Bool, true, false, ◌&&◌, ◌||◌, not, List, [], length}
use Rattle.rc_lang.specs.declared.request.Kind.TheVariants.{Write}
use Rattle.rc_lang.specs.declared.request.Request.{Request}
use Rattle.rc_lang.specs.Requests.{may_complete}

-- The request, bytes for it, and whether memory for them was refused.
pub record Job : Type 0 where
  pub request : Request
  pub bytes : List ℕ
  pub starved : Bool

-- the job of these parts
abbrev pub job_of : Request → List ℕ → Bool → Job
job_of request bytes starved = record { request = request; bytes = bytes; starved = starved }

-- A job has as many bytes as its request moves, unless it is starved: then it has none, and its request is a write.
pub record IsJob (job : Job) : Type 0 where
  pub small : job.request.len ≤ 4096
  pub enough : job.starved ≡ false → job.request.len ≤ length job.bytes
  pub none : job.starved ≡ true → job.bytes ≡ []
  pub of_write : job.starved ≡ true → job.request.kind ≡ Write

abbrev pub is_errno : ℤ → Bool
is_errno (pos n) = false
is_errno (negsuc n) = true

-- A job may have a result that its request may complete with; a starved one fails.
abbrev pub allows : Job → ℤ → Bool
allows job res = may_complete job.request res && (not job.starved || is_errno res)
