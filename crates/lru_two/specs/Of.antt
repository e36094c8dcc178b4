-- What the policy LRU-2 means.
use Rattle.std.specs.Prelude.{refl}
use Rattle.std.proofs.lemmas.List.{length-map}
use Rattle.policy.specs.Sets.{Kept}
use Rattle.policy.specs.declared.policy.Policy as policy
use Rattle.blocks.specs.declared.block.Block.{Block}
use Rattle.lru_two.specs.declared.lru_two.LruTwo.{LruTwo}
use Rattle.blocks.specs.Blocks.{pages}
use Rattle.lru_two.specs.Model.{Model, resident, size, empty, touched, chosen, admitted}

abbrev pub model : LruTwo → Model
model s = record { bound = s.frames.value; crp = s.crp; blocks = s.blocks; retained = s.retained }

pub kept : (s : LruTwo) → Kept (resident (model s)) (size (model s)) s.frames.value
kept s = record {
  least = s.frames.least;
  most = s.frames.most;
  within = s.few;
  counted = (pages s.blocks, s.once, length-map s.blocks (λ (b : Block). b.page), λ q. refl);
}

abbrev pub lru_two : policy.Ghosts LruTwo
lru_two = record {
  Model = Model;
  model = model;
  resident = resident;
  size = size;
  bound = λ m. m.bound;
  emptied = λ m. empty m.bound m.crp;
  touched = touched;
  admitted = admitted;
  chosen = chosen;
  kept = kept;
}
