use Rattle.std.specs.Prelude.{ℕ, List, ◌++◌, codes, decimal}
use Rattle.records.specs.declared.malformed.Malformed.{Malformed}
use Rattle.records.specs.declared.malformed.Malformed.TheVariants.{Status, Padding, Residue}

-- The sentence that each fault is printed as.
abbrev pub sentence : Malformed → List ℕ
sentence (Status b) = codes "the status byte is " ++ (decimal b ++ codes " and must be 0, 1 or 2")
sentence Padding = codes "a byte after the status is not zero"
sentence Residue = codes "an empty record has a byte that is not zero"
