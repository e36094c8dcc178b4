use Rattle.std.specs.Prelude.{◌≡◌, ℕ, true, false, List, is_ok, Result, ◌≢◌}
use Rattle.page.specs.declared.refusal.Refusal.{Refusal}
use Rattle.device.specs.Row.{Row, read_at, filled_at, write_at, written}

-- What a read of a device with n pages did, where the buffer had `old` and has `new`: the device is
-- as it was, and the buffer has the page's bytes, or on a refusal what it had.
pub record DidRead (n : ℕ) (pages : Row) (page : ℕ) (old : List ℕ) (r : Result (Unit {0}) Refusal) (n' : ℕ) (pages' : Row) (new : List ℕ) : Type 0 where
  pub size : n' ≡ n
  pub row : (k : ℕ) → pages' k ≡ pages k
  pub answer : r ≡ read_at (pages page)
  pub buffer : new ≡ filled_at (pages page) old

-- What a write did: where it was accepted, one page has the new bytes, and nothing else is altered.
pub record DidWrite (n : ℕ) (pages : Row) (page : ℕ) (bytes : List ℕ) (r : Result (Unit {0}) Refusal) (n' : ℕ) (pages' : Row) : Type 0 where
  pub size : n' ≡ n
  pub row : (k : ℕ) → pages' k ≡ written pages page bytes k
  pub answer : r ≡ write_at (pages page)

-- What whoever writes a page and then reads one learns, `w` and `r` being the two answers: the page
-- written reads as the bytes written, any other as before, and a refused write alters no page.
pub record DidBoth (pages : Row) (page : ℕ) (bytes : List ℕ) (other : ℕ) (old : List ℕ) (w r : Result (Unit {0}) Refusal) (pages' : Row) (new : List ℕ) : Type 0 where
  pub wrote : w ≡ write_at (pages page)
  pub read : r ≡ read_at (pages other)
  pub back : is_ok w ≡ true → other ≡ page → new ≡ bytes
  pub apart : (other ≢ page) → new ≡ filled_at (pages other) old
  pub refused : is_ok w ≡ false → new ≡ filled_at (pages other) old
  pub row : (k : ℕ) → pages' k ≡ written pages page bytes k
  pub kept : is_ok w ≡ false → (k : ℕ) → pages' k ≡ pages k
