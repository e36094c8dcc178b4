-- What LRU-2 remembers: the blocks of the resident pages, the blocks of pages that left, from the
-- one that left last, the frame count and the correlated reference period.
use Rattle.std.specs.Prelude.{ℕ, ◌/◌, Bool, List, [], ◌∷◌, length, take, Some, None, Option}
use Rattle.std.specs.Option.{option_map, option_or}
use Rattle.policy.specs.Sets.{member}
use Rattle.blocks.specs.declared.block.Block.{Block}
use Rattle.blocks.specs.Blocks.{pages, found, earlier, less, renewed, refreshed, candidate, scanned}

pub record Model : Type 0 where
  pub bound : ℕ
  pub crp : ℕ
  pub blocks : List Block
  pub retained : List Block

abbrev pub resident : Model → ℕ → Bool
resident m p = member p (pages m.blocks)

abbrev pub size : Model → ℕ
size m = length m.blocks

abbrev pub empty : ℕ → ℕ → Model
empty b crp = record { bound = b; crp = crp; blocks = []; retained = [] }

-- A hit of a page at a time.
abbrev pub touched : Model → ℕ → ℕ → Model
touched m p t = record { bound = m.bound; crp = m.crp; blocks = renewed (refreshed m.crp t) p m.blocks; retained = m.retained }

-- The choice: among the listed pages outside their period and, if there are none, among all that are
-- listed.
abbrev pub victim : Model → List ℕ → ℕ → Option Block
victim m listed t = option_or (scanned (candidate listed (Some m.crp) t) None m.blocks) (scanned (candidate listed None t) None m.blocks)

abbrev pub chosen : Model → List ℕ → ℕ → Option ℕ
chosen m listed t = option_map (λ (b : Block). b.page) (victim m listed t)

-- The retained block of a page is taken out.
abbrev pub forgotten : Model → ℕ → Model
forgotten m p = record { bound = m.bound; crp = m.crp; blocks = m.blocks; retained = less p m.retained }

-- A page leaves; its block goes to the head of those retained, of which B div 2 are kept.
abbrev pub dropped : Model → ℕ → Option Block → Model
dropped m q None = m
dropped m q (Some b) = record { bound = m.bound; crp = m.crp; blocks = less q m.blocks; retained = take (m.bound / 2) (b ∷ m.retained) }

abbrev pub gone : Model → Option ℕ → Model
gone m None = m
gone m (Some q) = dropped m q (found q m.blocks)

-- A page comes in at a time, with its HIST2.
abbrev pub come : Model → ℕ → ℕ → ℕ → Model
come m hist2 p t = record { bound = m.bound; crp = m.crp; blocks = record { page = p; hist1 = t; hist2 = hist2; last = t } ∷ m.blocks; retained = m.retained }

-- An admission. The retained block of the page is taken out before the leaving page's goes in, and
-- its HIST1 becomes HIST2.
abbrev pub admitted : Model → ℕ → Option ℕ → ℕ → Model
admitted m p leaving t = come (gone (forgotten m p) leaving) (earlier p m.retained) p t
