-- The calls of a program that no log makes, and what is printed of them.
use Rattle.std.specs.Prelude.{ℕ, Bool, not, ◌&&◌, List, [], ◌∷◌, ◌++◌, codes, decimal, map, slice_index_or, true, false, if◌then◌else◌}
use Rattle.std.specs.List.{filter, flat_map}
use Rattle.serde_json.specs.Data.{Data, array, member, no_members, number as json_number, object, string, unsigned}
use Rattle.serde_json.specs.View.{items_of}
use Rattle.serde_json.specs.Written.{compact_text}
use Rattle.rc_lang.specs.declared.lines.Line.{Line}
use Rattle.rc_lang.specs.declared.lines.Op.{Op}
use Rattle.rc_lang.specs.declared.lines.Op.TheVariants as op
use Rattle.rc_lang.specs.declared.lines.Stmt.{Stmt}
use Rattle.rc_lang.specs.declared.lines.Stmt.TheVariants as stmt
use Rattle.rc_lang.specs.Program.{Program, Thread, is_further}
use Rattle.rc_report.specs.Printed.{joined}
use Rattle.rc_report.specs.Shown.{shown}

-- the word of the call on the ring that a statement is; no bytes where it is none
abbrev pub word_of_op : Op → List ℕ
word_of_op op.GetSqe = codes "get_sqe"
word_of_op (op.PrepRead f b len off) = codes "prep_read"
word_of_op (op.PrepWrite f b len off k) = codes "prep_write"
word_of_op (op.PrepFsync f datasync) = codes "prep_fsync"
word_of_op op.PrepNop = codes "prep_nop"
word_of_op op.PrepOther = codes "prep_other"
word_of_op (op.SetData64 u) = codes "set_data64"
word_of_op (op.Submit x) = codes "submit"
word_of_op (op.SubmitAndWait x n) = codes "submit_and_wait"
word_of_op op.CqeSeen = codes "cqe_seen"
word_of_op _ = []

abbrev pub call_word : Stmt → List ℕ
call_word (stmt.Do o) = word_of_op o
call_word (stmt.Peek x) = codes "peek_cqe"
call_word _ = []

abbrev pub is_empty : List ℕ → Bool
is_empty [] = true
is_empty (c ∷ cs) = false

-- a call that wasn't reached
abbrev pub is_unmade : List Bool → Line → Bool
is_unmade reached line = not (is_empty (call_word line.stmt)) && not (slice_index_or reached line.number false)

abbrev pub unmade_in : List Bool → List Line → List Line
unmade_in reached lines = filter (is_unmade reached) lines

-- Copies have the lines of the first.
abbrev pub unmade_of : List Bool → Thread → List Line
unmade_of reached t = if is_further t.copy then [] else unmade_in reached t.lines

-- in the order of the program
abbrev pub unmade : Program → List Bool → List Line
unmade P reached = flat_map (unmade_of reached) P.threads

-- ---- as text: a line for each; as JSON: one object, without spaces, as it is shown, and with a line feed

abbrev pub unmade_line : Line → List ℕ
unmade_line line = joined (codes "never: line " ∷ decimal line.number ∷ codes ", " ∷ call_word line.stmt ∷ codes "\n" ∷ [])

abbrev pub call_object : Line → Data
call_object line = object (member (codes "call") (string (call_word line.stmt)) (member (codes "line") (json_number (unsigned line.number)) no_members))

abbrev pub unmade_object : List Line → Data
unmade_object lines = object (member (codes "never") (array (items_of (map call_object lines))) no_members)

abbrev pub unmade_printed : Bool → List Line → List ℕ
unmade_printed true lines = shown (compact_text (unmade_object lines)) ++ codes "\n"
unmade_printed false lines = flat_map unmade_line lines
