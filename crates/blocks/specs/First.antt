-- The order in which pages are to leave.
use Rattle.std.specs.Prelude.{◌≡◌, ◌<◌, ◌≤◌, Bool, true, ◌⊎◌, List, [], ◌∷◌, Some, None, Option}
use Rattle.blocks.specs.declared.block.Block.{Block}

-- A block is one of a list.
abbrev pub Among : Block → List Block → Type 0
Among c [] = ⊥
Among c (b ∷ bs) = (b ≡ c) ⊎ Among c bs

-- One page is to leave no later than another: its HIST2 is less; or that is equal, and its LAST is
-- less; or that is equal too, and its page number is no greater.
abbrev pub NoLater : Block → Block → Type 0
NoLater a b = (a.hist2 < b.hist2) ⊎ ((a.hist2 ≡ b.hist2) × ((a.last < b.last) ⊎ ((a.last ≡ b.last) × (a.page ≤ b.page))))

-- The first of some blocks to leave: it is one of them, and no other is to leave before it.
pub record First (Of : Block → Type 0) (b : Block) : Type 0 where
  pub one : Of b
  pub first : (c : Block) → Of c → NoLater b c

abbrev pub FirstOf : (Block → Type 0) → Option Block → Type 0
FirstOf Of None = (c : Block) → Of c → ⊥
FirstOf Of (Some b) = First Of b

-- The first to leave of the blocks of a list that pass a test, or none where none passes.
abbrev pub FirstAmong : List Block → (Block → Bool) → Option Block → Type 0
FirstAmong bs ok = FirstOf (λ c. Among c bs × (ok c ≡ true))
