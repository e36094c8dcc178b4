-- The shipped volume, by the bytes of its books.
use Rattle.std.proofs.Common.{◌≡◌, ℕ, ◌<◌, ◌≤◌, Bool, true, false, cond, ltb, List, length, is_some, IsErrAnd, None, Ok, Err, Result, refl, ap, ◌∙◌, arith, MatchResult}
use Rattle.std.proofs.lemmas.List.{take_all}
use Rattle.std.proofs.lemmas.Bool.{cond-true, cond-false, lt-ltb, le-ltb}
use Rattle.page.specs.declared.refusal.Refusal.{Refusal}
use Rattle.page.specs.declared.refusal.Refusal.TheVariants.{NoSuchPage, NoPlace}
use Rattle.ends.specs.declared.memory.Memory.{Memory}
use Rattle.ends.specs.Bytes.{pages_in, memory_row, archive_row}
use Rattle.ends.specs.Shapes.{memory_of}
use Rattle.layers.specs.Join.{join_row, join_size}
use Rattle.defects.specs.declared.list.DefectList.{DefectList}
use Rattle.defects.specs.declared.mark.Mark.{Mark}
use Rattle.defects.specs.Defects.{Marks, mark_of, taken, mark_answer, unmarked}
use Rattle.volume.specs.declared.marking.MarkRefused.{MarkRefused}
use Rattle.volume.specs.Listed.{worst_of, After, Stopped}
use Rattle.volume.specs.Volume.{Shipped, Opened, Unopened, marked_row}

no_marks : (k : ℕ) → mark_of unmarked k ≡ None
unfolding unmarked
no_marks k = refl

-- the marks of a list that had none and got all
pub all-marked : {D : Type 0} (s s' : DefectList D) (marks : List Mark) → s.marks ≡ unmarked → After s marks (length marks) s' → (k : ℕ) → mark_of s'.marks k ≡ worst_of k None marks
all-marked s s' marks e h k =
    h.each k
    ∙ ap (worst_of k (mark_of s.marks k)) (take_all (length marks) marks (omega arith))
    ∙ ap (λ o. worst_of k o marks) (ap (λ (ms : Marks). mark_of ms k) e ∙ no_marks k)

pub put_together : (batch fees archive : List ℕ) (marks : List Mark) (v : Shipped) → v.first.first.below.bytes.now ≡ batch → v.first.second.bytes.now ≡ fees → v.second.bytes.now ≡ archive → ((k : ℕ) → mark_of v.first.first.marks k ≡ worst_of k None marks) → Opened batch fees archive marks v
put_together batch fees archive marks v b f a m = record {
  size = λ i. join_size (join_size (pages_in (length (b i))) (pages_in (length (f i)))) (pages_in (length (a i)));
  row = λ k i.
      join_row (join_size (pages_in (length (b i))) (pages_in (length (f i))))
      (join_row (pages_in (length (b i))) (marked_row (λ j. m j i) (memory_row (b i))) (memory_row (f i)))
      (archive_row (a i)) k;
}

refused-past : (n : ℕ) (ms : Marks) (page : ℕ) (e : Refusal) → Err e ≡ mark_answer n ms page → n ≤ page → e ≡ NoSuchPage
refused-past n ms page e h l = let p = h ∙ cond-false (ltb page n) _ _ (le-ltb page n l) in cc

no_place : (b c : Bool) (e : Refusal) → ◌≡◌ {A = Result (Unit {0}) Refusal} (Err e) (cond b (Ok tt) (cond c (Ok tt) (Err NoPlace))) → e ≡ NoPlace
no_place true c e h = cc
no_place false true e h = cc
no_place false false e h = cc

refused_full : (n : ℕ) (ms : Marks) (page : ℕ) (e : Refusal) → Err e ≡ mark_answer n ms page → page < n → e ≡ NoPlace
refused_full n ms page e h l = no_place (is_some (mark_of ms page)) (ltb (taken ms) (length ms)) e (h ∙ cond-true (ltb page n) _ _ (lt-ltb page n l))

pub unopened : (batch : List ℕ) (marks : List Mark) (e : MarkRefused) (s s' : DefectList Memory) → s.below.bytes.now ≡ batch → Stopped memory_of s marks e s' → Unopened batch marks e
unopened batch marks e s s' b h = record {
  within = h.within;
  past = λ m at l. refused-past (pages_in (length batch)) s'.marks m.page e.refusal (h.why m at ∙ ap (λ (x : List ℕ). mark_answer (pages_in (length x)) s'.marks m.page) b) l;
  full = λ m at l. refused_full (pages_in (length batch)) s'.marks m.page e.refusal (h.why m at ∙ ap (λ (x : List ℕ). mark_answer (pages_in (length x)) s'.marks m.page) b) l;
}

-- the exit of a `?`
pub exit_cases : {A : Type 0} (P : A → Type 0) (Q : MarkRefused → Type 0) (r : Result A MarkRefused) (e : MarkRefused) → IsErrAnd r (λ y. y ≡ e) → Q e → MatchResult r P Q
exit_cases P Q (Ok x) e h q = absurd h
exit_cases P Q (Err y) e h q = rw h q
