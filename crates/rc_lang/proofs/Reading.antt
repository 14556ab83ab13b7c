-- Lines and lists that are read at the values of variables: what that keeps, and that it changes nothing where no name has
-- a row.
use Rattle.std.proofs.Common.{ℕ, ℤ, ◌≡◌, ◌<◌, List, length, get_or, Option, Some, None, option_map, slice_get, refl, sym, ap, ◌∙◌, subst, map, arith}
use Rattle.std.proofs.lemmas.List.{map-id}
use Rattle.std.proofs.lemmas.Option.{same_Some, slice_get-get_or, slice_get-map}
use Rattle.rc_lang.specs.declared.lines.Line.{Line}
use Rattle.rc_lang.specs.declared.lines.Op.{Op}
use Rattle.rc_lang.specs.declared.lines.Op.TheVariants.{Load, Store, Fill, PrepRead, PrepWrite, SetData64, CqeGetData64}
use Rattle.rc_lang.specs.declared.lines.Stmt.{Stmt}
use Rattle.rc_lang.specs.declared.lines.Stmt.TheVariants.{Do}
use Rattle.rc_lang.specs.declared.program.Thread.{Thread as ThreadPart}
use Rattle.rc_lang.specs.Parts.{view_rows, view_thread}
use Rattle.rc_lang.specs.Program.{Items, Program, Rows, Thread, items_at, line_at, lines_in, lines_of, lists_of, no_rows, rows_in, rows_of, stmt_at, stmt_of}
use Rattle.rc_lang.specs.Kept.{IsProgram}
use Rattle.rc_lang.specs.Rows.{AreSmall, line_read_at, list_read_at, read_items, read_line, read_op, read_stmt}

found : {A : Type 0} (xs : List A) (k : ℕ) (x : A) → k < length xs → x ≡ get_or xs k x → slice_get xs k ≡ Some x
found xs k x lt e = slice_get-get_or xs k x lt ∙ ap Some (sym e)

-- ---- what is kept

-- The line that is read at a place, and the one that stands there.
pub record IsReadOf (P : Program) (i : ℕ) (vars : List ℤ) (j : ℕ) (l : Line) : Type 0 where
  pub written : Line
  pub stands : line_at P i j ≡ Some written
  pub says : stmt_at (lines_of P i) j ≡ Some written.stmt
  pub read : l.stmt ≡ read_stmt P (rows_of P i) vars written.stmt

pub written_at : (P : Program) (i : ℕ) (vars : List ℤ) (j : ℕ) (l : Line) → line_read_at P i vars j ≡ Some l → IsReadOf P i vars j l
written_at P i vars j l e = go (line_at P i j) refl e
  where
    go : (o : Option Line) → line_at P i j ≡ o → option_map (read_line P (rows_of P i) vars) o ≡ Some l → IsReadOf P i vars j l
    go None h q = absurd (cc)
    go (Some v) h q = record { written = v; stands = h; says = ap stmt_of h; read = ap (λ (x : Line). x.stmt) (sym (same_Some _ _ q)) }

pub nothing_at : (P : Program) (i : ℕ) (vars : List ℤ) (j : ℕ) → line_read_at P i vars j ≡ None → line_at P i j ≡ None
nothing_at P i vars j e = go (line_at P i j) refl e
  where
    go : (o : Option Line) → line_at P i j ≡ o → option_map (read_line P (rows_of P i) vars) o ≡ None → line_at P i j ≡ None
    go None h q = h
    go (Some v) h q = absurd (cc)

-- a statement that gets a completion's user data names nothing
pub get_written : (P : Program) (rows : Rows) (vars : List ℤ) (s : Stmt) → read_stmt P rows vars s ≡ Do CqeGetData64 → s ≡ Do CqeGetData64
get_written P rows vars (Do (Load x b i)) e = absurd (cc)
get_written P rows vars (Do (Store b i x)) e = absurd (cc)
get_written P rows vars (Do (Fill b x)) e = absurd (cc)
get_written P rows vars (Do (PrepRead fd b len off)) e = absurd (cc)
get_written P rows vars (Do (PrepWrite fd b len off k)) e = absurd (cc)
get_written P rows vars (Do (SetData64 u)) e = absurd (cc)
get_written P rows vars (Do op) e = e
get_written P rows vars _ e = e

-- ---- where no name has a row

read_op_alone : (P : Program) (vars : List ℤ) (op : Op) → read_op P no_rows vars op ≡ op
read_op_alone P vars (Load x b i) = refl
read_op_alone P vars (Store b i x) = refl
read_op_alone P vars (Fill b x) = refl
read_op_alone P vars (PrepRead fd b len off) = refl
read_op_alone P vars (PrepWrite fd b len off k) = refl
read_op_alone P vars (SetData64 u) = refl
read_op_alone P vars _ = refl

read_stmt_alone : (P : Program) (vars : List ℤ) (s : Stmt) → read_stmt P no_rows vars s ≡ s
read_stmt_alone P vars (Do op) = ap Do (read_op_alone P vars op)
read_stmt_alone P vars _ = refl

read_line_alone : (P : Program) (vars : List ℤ) (l : Line) → read_line P no_rows vars l ≡ l
read_line_alone P vars l = ap (λ (s : Stmt). record l { stmt = s }) (read_stmt_alone P vars l.stmt)

read_items_alone : (P : Program) (vars : List ℤ) (items : Items) → read_items P no_rows vars items ≡ items
read_items_alone P vars items = ap (λ shares. record items { shares = shares; tokens = map (λ u. u) items.tokens }) (map-id items.shares) ∙ ap (λ tokens. record items { tokens = tokens }) (map-id items.tokens)

-- ---- in a made program

no_rows_in : (P : Program) → IsProgram P → (i : ℕ) → rows_of P i ≡ no_rows
no_rows_in P made i = go (slice_get P.threads i) refl
  where
    go : (o : Option Thread) → slice_get P.threads i ≡ o → rows_in o ≡ no_rows
    go None e = refl
    go (Some t) e = (made.each i t e).rows

pub line_alone : (P : Program) → IsProgram P → (i : ℕ) (vars : List ℤ) (j : ℕ) → line_read_at P i vars j ≡ line_at P i j
line_alone P made i vars j = ap (λ rows. option_map (read_line P rows vars) (line_at P i j)) (no_rows_in P made i) ∙ go (line_at P i j)
  where
    go : (o : Option Line) → option_map (read_line P no_rows vars) o ≡ o
    go None = refl
    go (Some l) = ap Some (read_line_alone P vars l)

-- so a statement that is read is the one that stands there
pub stmt_alone : (P : Program) → IsProgram P → (i : ℕ) (vars : List ℤ) (j : ℕ) (l : Line) → line_read_at P i vars j ≡ Some l → stmt_at (lines_of P i) j ≡ Some l.stmt
stmt_alone P made i vars j l e = ap stmt_of (sym (line_alone P made i vars j) ∙ e)

pub list_alone : (P : Program) → IsProgram P → (i : ℕ) (vars : List ℤ) (k : ℕ) → list_read_at P i vars k ≡ items_at (lists_of P i) k
list_alone P made i vars k = ap (λ rows. read_items P rows vars (items_at (lists_of P i) k)) (no_rows_in P made i) ∙ read_items_alone P vars (items_at (lists_of P i) k)

pub small_rows : (P : Program) → IsProgram P → (i : ℕ) → AreSmall (rows_of P i)
small_rows P made i = subst AreSmall (sym (no_rows_in P made i)) (record { buffers = λ k d lt. absurd (omega arith); members = λ k d lt. absurd (omega arith) })

-- ---- in the code

module _ (P : Program) (parts : List ThreadPart) (i : ℕ) (part : ThreadPart) (same : map view_thread parts ≡ P.threads) (within : i < length parts) (is : part ≡ get_or parts i part) where
  thread_found : slice_get P.threads i ≡ Some (view_thread part)
  thread_found = ap (λ ts. slice_get ts i) (sym same) ∙ slice_get-map view_thread parts i ∙ ap (option_map view_thread) (found parts i part within is)

  pub rows_small : IsProgram P → AreSmall (view_rows part.rows)
  rows_small made = subst AreSmall (ap rows_in thread_found) (small_rows P made i)

  pub line_found : (vars : List ℤ) (lines : List Line) (j : ℕ) (l : Line) → lines ≡ part.lines.items → j < length lines → l ≡ get_or lines j l → Some (read_line P (view_rows part.rows) vars l) ≡ line_read_at P i vars j
  line_found vars lines j l has lt e =
      sym (
      ap (λ t. option_map (read_line P (rows_in t) vars) (slice_get (lines_in t) j)) thread_found
      ∙ ap (λ ls. option_map (read_line P (view_rows part.rows) vars) (slice_get ls j)) (sym has)
      ∙ ap (option_map (read_line P (view_rows part.rows) vars)) (found lines j l lt e)
      )
