-- The lines of equal volumes.
use Rattle.std.proofs.Common.{◌≡◌, ℕ}
use Rattle.device.specs.Row.{Row}
use Rattle.stock.specs.Lines.{lines_to}

pub same_lines : (b b' f f' n n' : ℕ) (r r' : Row) → b ≡ b' → f ≡ f' → n ≡ n' → ((k : ℕ) → r k ≡ r' k) → lines_to (record { batch_pages = b; fee_pages = f }) r n ≡ lines_to (record { batch_pages = b'; fee_pages = f' }) r' n'
same_lines b b' f f' n n' r r' p q s e = λ i. lines_to (record { batch_pages = p i; fee_pages = q i }) (λ k. e k i) (s i)
