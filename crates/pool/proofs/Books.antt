-- Equal books, and the book of a pool whose frames are free.
use Rattle.std.proofs.Common.{◌≡◌, ℕ, None, ap}
use Rattle.book.specs.Book.{Book}
use Rattle.frames.specs.Table.{Frame, at}

pub same-book : (x y : Book) → x.size ≡ y.size → x.bound ≡ y.bound → x.mark ≡ y.mark → x.clock ≡ y.clock → ((k : ℕ) → x.pages k ≡ y.pages k) → ((k : ℕ) → x.reading k ≡ y.reading k) → ((k : ℕ) → x.updating k ≡ y.updating k) → x ≡ y
same-book x y a b c d p r u =
    λ i. record { size = a i; bound = b i; mark = c i; clock = d i; pages = λ k. p k i; reading = λ k. r k i; updating = λ k. u k i }

-- no frame is in use
pub at_free : (n : ℕ) (F : ℕ → Frame) (q : ℕ) → n ≡ 0 → at n F q ≡ None
at_free n F q e = ap (λ (m : ℕ). at m F q) e
