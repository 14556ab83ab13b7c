-- The numbers of a form.
use Rattle.std.specs.Prelude.{ℕ, suc, List, [], ◌∷◌}
use Rattle.rc_read.specs.declared.table.Part.{Part}
use Rattle.rc_read.specs.declared.table.Part.TheVariants as part

-- a part more, which counts if it is a number
abbrev pub counted : Part → ℕ → ℕ
counted (part.Fixed word) n = n
counted part.Variable n = n
counted part.Operand n = n
counted part.Comparison n = n
counted part.Signed n = n
counted (part.Number range) n = suc n
counted part.File n = n
counted part.Buffer n = n
counted part.Token n = n
counted part.Pool n = n
counted part.NewFile n = n
counted part.NewBuffer n = n
counted part.NewToken n = n
counted part.NewPool n = n
counted part.NewThread n = n
counted part.NewThreads n = n
counted part.Copies n = n
counted part.Items n = n
counted part.Flag n = n
counted part.Kinds n = n
counted part.KindWord n = n
counted part.ReadBuffer n = n
counted part.WriteShares n = n
counted part.HeldShares n = n
counted part.HeldToken n = n
counted part.Credits n = n
counted part.Queued n = n

abbrev pub numbers_in : List Part → ℕ
numbers_in [] = 0
numbers_in (one ∷ parts) = counted one (numbers_in parts)
