-- One call more, and so a whole life.
use Rattle.std.proofs.Common.{◌≡◌, ℕ, zero, suc, ◌+◌, ◌*◌, ◌<◌, ◌≤◌, Bool, true, false, ◌⊎◌, List, [], ◌∷◌, ◌++◌, length, take, drop, Some, None, Option, sym, refl, ap, ◌∙◌, subst, inl, inr, append_assoc, append-nil, arith, length-append, take_all}
use borrow.Author.Tests.{clash}
use lib.Seq.{take-append-le}
use Rattle.std.specs.List.{slice_get}
use Rattle.page.specs.declared.refusal.Refusal.{Refusal}
use Rattle.device.specs.Row.{Page}
use Rattle.book.specs.Book.{Book, says, next, refusal, decided, book_after, told}
use Rattle.book.specs.Bytes.{readable}
use Rattle.book.specs.Call.{Call, Answer}
use Rattle.book.specs.Call.Call.{Fix, Read, Write, Unfix, Flush, FlushAll, Close}
use Rattle.book.specs.Call.Answer.{Done}
use Rattle.book.specs.Life.{Sight, flushes, Flushed, Step, Life, book_at, Moment, Kept, Opens, Lives, Agree}
use Rattle.book.specs.Life.Life.{start, step}

book_after_snoc : (b : Book) (cs : List Call) (c : Call) → book_after b (cs ++ c ∷ []) ≡ next (book_after b cs) c
book_after_snoc b [] c = refl
book_after_snoc b (d ∷ cs) c = book_after_snoc (next b d) cs c

told_snoc : (b : Book) (cs : List Call) (c : Call) → told b (cs ++ c ∷ []) ≡ told b cs ++ (says (book_after b cs) c ∷ [])
told_snoc b [] c = refl
told_snoc b (d ∷ cs) c = ap (λ l. says b d ∷ l) (told_snoc (next b d) cs c)

nth_nil : (k : ℕ) (x : Call) → slice_get {X = Call} [] k ≡ Some x → ⊥
nth_nil k x e = let z : ◌≡◌ {A = ℕ} 0 1 = cc in omega arith

nth_lt : (cs : List Call) (k : ℕ) (x : Call) → slice_get cs k ≡ Some x → k < length cs
nth_lt [] k x e = absurd (nth_nil k x e)
nth_lt (c ∷ cs) zero x e = omega arith
nth_lt (c ∷ cs) (suc k) x e = let h : k < length cs = nth_lt cs k x e in omega arith

nth_snoc : (cs : List Call) (c : Call) (k : ℕ) (x : Call) → slice_get (cs ++ c ∷ []) k ≡ Some x → (slice_get cs k ≡ Some x) ⊎ ((k ≡ length cs) × (c ≡ x))
nth_snoc [] c zero x e = inr (refl, cc)
nth_snoc [] c (suc k) x e = absurd (nth_nil k x e)
nth_snoc (d ∷ cs) c zero x e = inl e
nth_snoc (d ∷ cs) c (suc k) x e = elim (nth_snoc cs c k x e) [ inl h ↦ inl h | inr h ↦ inr (ap suc h.0, h.1) ]

flushed_or : (b : Book) (call : Call) (q : ℕ) → Flushed b call q ⊎ (Flushed b call q → ⊥)
flushed_or b call q = go (refusal b call) (flushes call q) refl refl
  where
    go : (o : Option Refusal) (f : Bool) → refusal b call ≡ o → flushes call q ≡ f → Flushed b call q ⊎ (Flushed b call q → ⊥)
    go None true e g = inl (record { accepted = e; named = g })
    go None false e g = inr (λ h. let n = h.named in let z : ◌≡◌ {A = ℕ} 0 1 = cc in omega arith)
    go (Some r) f e g = inr (λ h. let n = h.accepted in let z : ◌≡◌ {A = ℕ} 0 1 = cc in omega arith)

keeps : (b : Book) (a : Answer) (o : Option Refusal) → (decided b o (a, b)).1 ≡ b
keeps b a None = refl
keeps b a (Some r) = refl

-- a flush leaves the book as it was
pub flush_keeps : (b : Book) (call : Call) (q : ℕ) → flushes call q ≡ true → next b call ≡ b
flush_keeps b (Fix kind page) q e = absurd (clash e)
flush_keeps b (Read g offset len) q e = absurd (clash e)
flush_keeps b (Write mark page offset bytes) q e = absurd (clash e)
flush_keeps b (Unfix g) q e = absurd (clash e)
flush_keeps b (Flush page) q e = keeps b Done _
flush_keeps b FlushAll q e = refl
flush_keeps b Close q e = refl

-- the book at a moment does not hang on later calls
at_more : (b : Book) (calls : List Call) (call : Call) (m : ℕ) → m ≤ length calls → book_at b (calls ++ call ∷ []) m ≡ book_at b calls m
at_more b calls call m le = ap (book_after b) (take-append-le m calls (call ∷ []) le)

at_end : (b : Book) (calls : List Call) → book_at b calls (length calls) ≡ book_after b calls
at_end b calls = ap (book_after b) (take_all (length calls) calls (omega arith))

moment_next : (b : Book) (calls : List Call) (c d : Sight) (call : Call) (a : Answer) (q : ℕ) → c.book ≡ book_after b calls → Step c call a d → Moment 0 b calls q (c.below q) → Moment 0 b (calls ++ call ∷ []) q (d.below q)
moment_next b calls c d call a q e s o = elim (flushed_or c.book call q) [ inl f ↦ settled f | inr nf ↦ other nf (s.moved q) ]
  where
    long : length (calls ++ call ∷ []) ≡ length calls + 1
    long = length-append calls (call ∷ [])

    -- the book just before this call
    before : book_at b (calls ++ call ∷ []) (length calls) ≡ c.book
    before = at_more b calls call (length calls) (omega arith) ∙ at_end b calls ∙ sym e

    G : Type 0
    G = Moment 0 b (calls ++ call ∷ []) q (d.below q)

    later : (Flushed c.book call q → ⊥) → (m : ℕ) → ((k : ℕ) (x : Call) → slice_get calls k ≡ Some x → Flushed (book_at b calls k) x q → k < m) → (k : ℕ) (x : Call) → slice_get (calls ++ call ∷ []) k ≡ Some x → Flushed (book_at b (calls ++ call ∷ []) k) x q → k < m
    later nf m h k x n f =
        elim (nth_snoc calls call k x n) [
          | inl old ↦ h k x old (let l : k < length calls = nth_lt calls k x old in subst (λ y. Flushed y x q) (at_more b calls call k (omega arith)) f)
          | inr new ↦ absurd (nf (subst (λ y. Flushed c.book y q) (sym new.1) (subst (λ y. Flushed y x q) (ap (book_at b (calls ++ call ∷ [])) new.0 ∙ before) f)))
        ]

    -- the flush leaves the book as it was: so what it gave before it, it gives after it
    settled : Flushed c.book call q → G
    settled f =
        record {
          m = length calls + 1;
          since = omega arith;
          within = omega (arith, long);
          gives = s.flushed q f ∙ ap (λ y. y.pages q) (sym (ap (book_after b) (take_all (length calls + 1) (calls ++ call ∷ []) (omega (arith, long))) ∙ book_after_snoc b calls call ∙ ap (λ y. next y call) (sym e) ∙ flush_keeps c.book call q f.named));
          flushed = λ k x n g. omega (arith, nth_lt (calls ++ call ∷ []) k x n, long);
        }

    other : (Flushed c.book call q → ⊥) → (d.below q ≡ c.below q) ⊎ (d.below q ≡ c.book.pages q) → G
    other nf (inl same) =
        record {
          m = o.m;
          since = omega arith;
          within = omega (arith, o.within, long);
          gives = same ∙ o.gives ∙ ap (λ y. y.pages q) (sym (at_more b calls call o.m o.within));
          flushed = later nf o.m o.flushed;
        }
    other nf (inr back) =
        record {
          m = length calls;
          since = omega arith;
          within = omega (arith, long);
          gives = back ∙ ap (λ y. y.pages q) (sym before);
          flushed = later nf (length calls) (λ k x n f. nth_lt calls k x n);
        }

pub kept-start : (c : Sight) → Opens c → Kept 0 c.book [] [] c
kept-start c o = record { answers = refl; books = refl; holds = λ q h. record { m = 0; since = omega arith; within = omega arith; gives = o q; flushed = λ k x n f. absurd (nth_nil k x n) } }

pub kept_next : (b : Book) (calls : List Call) (rs : List Answer) (c d : Sight) (call : Call) (a : Answer) → Kept 0 b calls rs c → Step c call a d → Kept 0 b (calls ++ call ∷ []) (rs ++ a ∷ []) d
kept_next b calls rs c d call a k s =
    record {
      answers = ap (λ l. l ++ (a ∷ [])) k.answers ∙ ap (λ x. told b calls ++ (x ∷ [])) (s.answer ∙ ap (λ y. says y call) k.books) ∙ sym (told_snoc b calls call);
      books = s.after ∙ ap (λ y. next y call) k.books ∙ sym (book_after_snoc b calls call);
      holds = λ q h. moment_next b calls c d call a q k.books s (k.holds q h);
    }

pub kept_on : (b : Book) (done : List Call) (said : List Answer) (c : Sight) (calls : List Call) (rs : List Answer) (d : Sight) → Life c calls rs d → Kept 0 b done said c → Kept 0 b (done ++ calls) (said ++ rs) d
kept_on b done said c _ _ _ start k = subst (λ l. Kept 0 b l (said ++ []) c) (sym (append-nil done)) (subst (λ l. Kept 0 b done l c) (sym (append-nil said)) k)
kept_on b done said c _ _ e (step {d = d} {call = call} {a = a} {calls = calls} {rs = rs} s l) k =
    let more = kept_on b (done ++ call ∷ []) (said ++ a ∷ []) d calls rs e l (kept_next b done said c d call a k s) in
    subst (λ l. Kept 0 b l (said ++ a ∷ rs) e) (append_assoc done (call ∷ []) calls) (subst (λ l. Kept 0 b ((done ++ call ∷ []) ++ calls) l e) (append_assoc said (a ∷ []) rs) more)

-- every life from an opening keeps the promise
pub kept : (c : Sight) → Opens c → (calls : List Call) (rs : List Answer) (d : Sight) → Life c calls rs d → Kept 0 c.book calls rs d
kept c o calls rs d l = kept_on c.book [] [] c calls rs d l (kept-start c o)

-- a life cut in two
pub life-cut : (c : Sight) (calls : List Call) (rs : List Answer) (d : Sight) → Life c calls rs d → (n : ℕ) → (x : Sight) × Life c (take n calls) (take n rs) x × Life x (drop n calls) (drop n rs) d
life-cut c _ _ d l zero = (c, start, l)
life-cut c _ _ _ start (suc n) = (c, start, start)
life-cut c _ _ e (step {d = d} {calls = calls} {rs = rs} s l) (suc n) = let rest = life-cut d calls rs e l n in (rest.0, step s rest.1, rest.2)

nth_end : (cs : List Call) (c : Call) → slice_get (cs ++ c ∷ []) (length cs) ≡ Some c
nth_end [] c = refl
nth_end (d ∷ cs) c = nth_end cs c

closed : (c : Sight) → Opens c → (calls : List Call) (rs : List Answer) (d : Sight) → Life c (calls ++ Close ∷ []) rs d → (q : ℕ) → readable (c.book.pages q) ≡ true → d.below q ≡ (book_after c.book calls).pages q
closed c o calls rs d l q h =
    let x = (kept c o (calls ++ Close ∷ []) rs d l).holds q h in
    let late = x.flushed (length calls) Close (nth_end calls Close) (record { accepted = refl; named = refl }) in
    x.gives ∙ ap (λ b. b.pages q) (ap (book_after c.book) (take_all x.m (calls ++ Close ∷ []) (omega (arith, late, length-append calls (Close ∷ [])))) ∙ book_after_snoc c.book calls Close)

-- the device that is written only by a flush has a life of every list of calls
below_by : (c : Sight) (call : Call) (q : ℕ) → Flushed c.book call q ⊎ (Flushed c.book call q → ⊥) → Option Page
below_by c call q (inl f) = c.book.pages q
below_by c call q (inr nf) = c.below q

abbrev lazy : Sight → Call → Sight
lazy c call = record { book = next c.book call; below = λ q. below_by c call q (flushed_or c.book call q) }

lazy-step : (c : Sight) (call : Call) → Step c call (says c.book call) (lazy c call)
unfolding below_by
lazy-step c call = record { answer = refl; after = refl; moved = λ q. moved q (flushed_or c.book call q); flushed = λ q. flushed q (flushed_or c.book call q) }
  where
    moved : (q : ℕ) (o : Flushed c.book call q ⊎ (Flushed c.book call q → ⊥)) → (below_by c call q o ≡ c.below q) ⊎ (below_by c call q o ≡ c.book.pages q)
    moved q (inl f) = inr refl
    moved q (inr nf) = inl refl

    flushed : (q : ℕ) (o : Flushed c.book call q ⊎ (Flushed c.book call q → ⊥)) → Flushed c.book call q → below_by c call q o ≡ c.book.pages q
    flushed q (inl f) _ = refl
    flushed q (inr nf) f = absurd (nf f)

life-any : (c : Sight) (calls : List Call) → (d : Sight) × Life c calls (told c.book calls) d
life-any c [] = (c, start)
life-any c (call ∷ calls) = let more = life-any (lazy c call) calls in (more.0, step (lazy-step c call) more.1)

pub lives : (c : Sight) → Opens c → Lives 0 c
lives c o =
    record {
      opens = λ calls. refl;
      any = life-any c;
      kept = kept c o;
      cut = λ calls rs d l n le. let x = life-cut c calls rs d l n in (x.0, x.1, x.2, kept c o (take n calls) (take n rs) x.0 x.1);
      closed = closed c o;
    }

-- every answer is the book's, in a life from any sight
pub life-told : (c : Sight) (calls : List Call) (rs : List Answer) (d : Sight) → Life c calls rs d → rs ≡ told c.book calls
life-told c _ _ _ start = refl
life-told c _ _ e (step {d = d} {call = call} {a = a} {calls = calls} {rs = rs} s l) =
    ap (λ x. x ∷ rs) s.answer ∙ ap (λ l. says c.book call ∷ l) (life-told d calls rs e l ∙ ap (λ b. told b calls) s.after)

pub life-book : (c : Sight) (calls : List Call) (rs : List Answer) (d : Sight) → Life c calls rs d → d.book ≡ book_after c.book calls
life-book c _ _ _ start = refl
life-book c _ _ e (step {d = d} {call = call} {calls = calls} {rs = rs} s l) = life-book d calls rs e l ∙ ap (λ b. book_after b calls) s.after

life-long : (c d : Sight) (calls : List Call) (rs : List Answer) → Life c calls rs d → length rs ≡ 1 * length calls
life-long c _ _ _ start = refl
life-long c e _ _ (step {d = d} {calls = calls} {rs = rs} s l) = let h = life-long d e calls rs l in omega arith

pub agree : Agree 1
agree =
    record {
      each = life-long;
      same = λ c d c' d' calls rs rs' e l l'. (
        life-told c calls rs d l ∙ ap (λ b. told b calls) e ∙ sym (life-told c' calls rs' d' l'),
        life-book c calls rs d l ∙ ap (λ b. book_after b calls) e ∙ sym (life-book c' calls rs' d' l'),
      );
    }

-- a life and one call more
pub life_snoc : (c : Sight) (calls : List Call) (rs : List Answer) (d e : Sight) (call : Call) (a : Answer) → Life c calls rs d → Step d call a e → Life c (calls ++ call ∷ []) (rs ++ a ∷ []) e
life_snoc c _ _ _ e call a start t = step t start
life_snoc c _ _ x e call a (step {d = d} {calls = calls} {rs = rs} s l) t = step s (life_snoc d calls rs x e call a l t)
