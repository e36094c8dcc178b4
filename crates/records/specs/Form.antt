use Rattle.std.specs.Prelude.{◌≡◌, ℕ, ◌<◌, List, ◌++◌, length, drop}
use Rattle.std.specs.Int.Digits.{AllBelowBase}

-- n bytes: as many numbers, each below 256.
pub record Bytes (n : ℕ) (bs : List ℕ) : Type 0 where
  pub long : length bs ≡ n
  pub under : AllBelowBase 256 bs

-- The fields of a record stand before the status, in as many bytes as its place says: fields that fit are
-- read back whatever follows them, and what 32 bytes begin with are the bytes of the fields read from them.
pub record FieldLaws {T : Type 0} (status : ℕ) (Fits : T → Type 0) (bytes : T → List ℕ) (fields : List ℕ → T) : Type 0 where
  pub room : status < 32
  pub sized : (x : T) → Bytes status (bytes x)
  pub back : (x : T) (rest : List ℕ) → Fits x → fields (bytes x ++ rest) ≡ x
  pub only : (bs : List ℕ) → Bytes 32 bs → bytes (fields bs) ++ drop status bs ≡ bs
  pub fits : (bs : List ℕ) → Bytes 32 bs → Fits (fields bs)
