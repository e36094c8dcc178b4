-- The rows of the two ends have the shape that every device owes.
use Rattle.std.specs.Prelude.{◌≡◌, ℕ, ◌<◌, Bool, true, false, cond, List, length, is_some, Some, None, nat_lt, refl}
use Rattle.std.proofs.Common.{arith, length-take, length-drop, ltb-true, lt-ltb}
use Rattle.std.proofs.lemmas.Bool.{cond-true}
use Rattle.device.specs.declared.device.Device as device
use Rattle.device.specs.Row.{Page, sound, worn}
use Rattle.device.specs.Shape.{Shaped, Whole}
use Rattle.ends.specs.declared.archive.Archive.{Archive}
use Rattle.ends.specs.declared.memory.Memory.{Memory}
use Rattle.ends.specs.Bytes.{pages_in, page_of, memory_row, archive_row, made}

pub length-page : (bs : List ℕ) (k : ℕ) → k < pages_in (length bs) → length (page_of bs k) ≡ 512
length-page bs k h = simp (length-take, length-drop) (omega arith)

some_if : (b : Bool) (p : Page) → is_some (cond b (Some p) None) ≡ b
some_if true p = refl
some_if false p = refl

whole_if : (b : Bool) (p : Page) → (b ≡ true → Whole (Some p)) → Whole (cond b (Some p) None)
whole_if true p h = h refl
whole_if false p h = tt

-- a row that has a page, whole, at each place below the count of bytes
pub shaped_by : (n : ℕ) (p : ℕ → Page) → ((k : ℕ) → k < pages_in n → Whole (Some (p k))) → Shaped (pages_in n) (λ k. cond (nat_lt k (pages_in n)) (Some (p k)) None)
shaped_by n p w = record {
  few = omega arith;
  exact = λ k. some_if (nat_lt k (pages_in n)) (p k);
  whole = λ k. whole_if (nat_lt k (pages_in n)) (p k) (λ e. w k (ltb-true k (pages_in n) e));
}

pub memory_shaped : (bs : List ℕ) → Shaped (pages_in (length bs)) (memory_row bs)
memory_shaped bs = shaped_by (length bs) (λ k. sound (page_of bs k)) (length-page bs)

pub archive_shaped : (bs : List ℕ) → Shaped (pages_in (length bs)) (archive_row bs)
archive_shaped bs = shaped_by (length bs) (λ k. worn (made k) (page_of bs k)) (length-page bs)

pub memory_there : (bs : List ℕ) (k : ℕ) → k < pages_in (length bs) → memory_row bs k ≡ Some (sound (page_of bs k))
memory_there bs k h = cond-true (nat_lt k (pages_in (length bs))) (Some (sound (page_of bs k))) None (lt-ltb k (pages_in (length bs)) h)

pub archive_there : (bs : List ℕ) (k : ℕ) → k < pages_in (length bs) → archive_row bs k ≡ Some (worn (made k) (page_of bs k))
archive_there bs k h = cond-true (nat_lt k (pages_in (length bs))) (Some (worn (made k) (page_of bs k))) None (lt-ltb k (pages_in (length bs)) h)

-- What a memory and an archive mean, by the bytes that they stand on.
abbrev pub memory_of : device.Ghosts Memory
memory_of = record {
  size = λ s. pages_in (length s.bytes.now);
  row = λ s. memory_row s.bytes.now;
  shaped = λ s. memory_shaped s.bytes.now;
}

abbrev pub archive_of : device.Ghosts Archive
archive_of = record {
  size = λ s. pages_in (length s.bytes.now);
  row = λ s. archive_row s.bytes.now;
  shaped = λ s. archive_shaped s.bytes.now;
}
