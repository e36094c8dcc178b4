-- Which page may be chosen to leave.
use Rattle.std.specs.Prelude.{◌≡◌, ℕ, ◌-◌, ◌<◌, true, ◌⊎◌, List, Some, None, Option}
use Rattle.policy.specs.Sets.{member}
use Rattle.blocks.specs.declared.block.Block.{Block}
use Rattle.blocks.specs.First.{Among, First}
use Rattle.lru_two.specs.Model.{Model}

-- The block of a listed resident page.
pub record Rival (m : Model) (listed : List ℕ) (b : Block) : Type 0 where
  pub among : Among b m.blocks
  pub named : member b.page listed ≡ true

-- More than CRP has passed since the page was last asked for.
abbrev pub Outside : Model → ℕ → Block → Type 0
Outside m t b = m.crp < t - b.last

-- A page is the first of some to leave.
pub record Leaver (Of : Block → Type 0) (p : ℕ) : Type 0 where
  pub block : Block
  pub is : block.page ≡ p
  pub first : First Of block

-- A choice: the first of the listed resident pages outside their period or, where none is outside,
-- of all listed resident pages; none where no listed page is resident.
abbrev pub Choice : Model → List ℕ → ℕ → Option ℕ → Type 0
Choice m listed t None = (c : Block) → Rival m listed c → ⊥
Choice m listed t (Some p) =
    Leaver (λ b. Rival m listed b × Outside m t b) p
    ⊎ (((c : Block) → Rival m listed c → Outside m t c → ⊥) × Leaver (Rival m listed) p)
