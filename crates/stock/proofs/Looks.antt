-- Looking at the pages of a volume, one after another.
use Rattle.std.proofs.Common.{◌≡◌, ℕ, suc, ◌+◌, List, [], ◌∷◌, ◌++◌, Some, None, Option, Result, refl, ap, ◌∙◌, arith}
use Rattle.page.specs.declared.refusal.Refusal.{Refusal}
use Rattle.page.specs.declared.state.State.{State}
use Rattle.device.specs.Row.{Page, sound, worn, lost, Row, state_at, read_at, filled_at}
use Rattle.stock.specs.declared.book.Book.{Book}
use Rattle.stock.specs.declared.book.Layout.{Layout}
use Rattle.stock.specs.declared.line.Line.{Line}
use Rattle.stock.specs.declared.tally.Tally.{Tally}
use Rattle.stock.specs.Books.{book_of}
use Rattle.stock.specs.Lines.{heard_of, found_at, line_of, lines_to}

pub heard_found : (b : Book) (o : Option Page) (old : List ℕ) → heard_of b (read_at o) (filled_at o old) ≡ found_at b o
heard_found b None old = refl
heard_found b (Some (sound bs)) old = refl
heard_found b (Some (worn w bs)) old = refl
heard_found b (Some (lost w)) old = refl

pub same_line : (p : ℕ) (b b' : Book) (s s' : Result State Refusal) (f f' : Result Tally Refusal) → b ≡ b' → s ≡ s' → f ≡ f' → ◌≡◌ {A = Line} (record { page = p; book = b; state = s; found = f }) (record { page = p; book = b'; state = s'; found = f' })
same_line p b b' s s' f f' x y z = λ i. record { page = p; book = x i; state = y i; found = z i }

-- the same page gives the same line
pub line_same : (l : Layout) (r r' : Row) (k : ℕ) → r' k ≡ r k → line_of l r' k ≡ line_of l r k
line_same l r r' k e = same_line k _ _ _ _ _ _ refl (ap state_at e) (ap (found_at (book_of l k)) e)

-- one page more
pub lines_more : (l : Layout) (r : Row) (n : ℕ) (lines : List Line) (line : Line) → lines ≡ lines_to l r n → line ≡ line_of l r n → lines ++ (line ∷ []) ≡ lines_to l r (n + 1)
lines_more l r n lines line e h = let s : suc n ≡ n + 1 = omega arith in (λ i. e i ++ (h i ∷ [])) ∙ ap (lines_to l r) s
