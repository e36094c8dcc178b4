-- What the calls of a recency list do.
use Rattle.std.specs.Prelude.{◌≡◌, ℕ, ◌<◌, ◌≤◌, true, List, ◌∷◌, length, take, is_ok, Ok, Err, Result}
use Rattle.std.specs.Option.{ok_or}
use Rattle.std.specs.List.{slice_get}
use Rattle.page.specs.declared.refusal.Refusal.{Refusal}
use Rattle.page.specs.declared.refusal.Refusal.TheVariants.{NoPlace, PastLength}
use Rattle.recency.specs.declared.list.Recency.{Recency}
use Rattle.recency.specs.Recent.{without, to_head}

-- The records of the list, from the head.
abbrev pub live : {T : Type 0} → Recency T → List T
live r = take r.len r.records.now

-- How many records the slice has places for.
abbrev pub room : {T : Type 0} → Recency T → ℕ
room r = length r.records.now

-- A put: the record is at the head, or no place was free.
pub record DidPut {T : Type 0} (old : Recency T) (x : T) (r : Result (Unit {0}) Refusal) (new : Recency T) : Type 0 where
  pub done : length (live old) < room old → (r ≡ Ok tt) × (live new ≡ x ∷ live old)
  pub refused : room old ≤ length (live old) → (r ≡ Err NoPlace) × (new ≡ old)
  pub places : room new ≡ room old

-- A take: the record at the place is answered and is gone, or there is no such place.
pub record DidTake {T : Type 0} (old : Recency T) (place : ℕ) (r : Result T Refusal) (new : Recency T) : Type 0 where
  pub answer : r ≡ ok_or (slice_get (live old) place) PastLength
  pub list : live new ≡ without (live old) place
  pub done : place < length (live old) → is_ok r ≡ true
  pub refused : length (live old) ≤ place → (r ≡ Err PastLength) × (new ≡ old)
  pub places : room new ≡ room old

-- A move: the record at the place is at the head, or there is no such place.
pub record DidMove {T : Type 0} (old : Recency T) (place : ℕ) (r : Result (Unit {0}) Refusal) (new : Recency T) : Type 0 where
  pub list : live new ≡ to_head (live old) place
  pub len : new.len ≡ old.len
  pub done : place < length (live old) → r ≡ Ok tt
  pub refused : length (live old) ≤ place → (r ≡ Err PastLength) × (new ≡ old)
  pub places : room new ≡ room old
