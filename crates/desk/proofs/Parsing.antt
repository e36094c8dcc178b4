-- Reading the lines of a defect file, one after another.
use Rattle.std.proofs.Common.{◌≡◌, ℕ, zero, suc, ◌+◌, ◌-◌, ◌<◌, ◌≤◌, List, [], ◌∷◌, length, map, get_or, Ok, Err, Some, None, Option, Result, Bor, sym, ap, ◌∙◌, arith}
use Rattle.std.specs.Iterator.{AlwaysYields, Yields}
use Rattle.std.specs.Iterator.Adapters.{enumerate_source, enumerate_count, enumerate_steps}
use Rattle.std.specs.List.{enumerate_from}
use Rattle.std.specs.declared.iter.Enumerate.{Enumerate}
use Rattle.std.proofs.lemmas.Iterator.{YieldsList}
use Rattle.std.proofs.lemmas.Iterator.Consumers.{YieldsList-at, YieldsList-turn, YieldsList-end, YieldsList-from_enumerate}
use Rattle.std.proofs.lemmas.List.{get_or_default}
use Rattle.std.proofs.lemmas.List.FromFn.{length-enumerate_from, get_or-enumerate_from}
use Rattle.office.specs.declared.defect_line.NoMark.{NoMark}
use Rattle.defects.specs.declared.mark.Mark.{Mark}
use Rattle.office.specs.DefectLines.{line_in}
use Rattle.desk.specs.declared.defect_file.LineMark.{LineMark}
use Rattle.desk.specs.DefectFiles.{with_line, line_more, marks_to, marks_in}

-- one line more
pub line_step : (ls : List (List ℕ)) (n : ℕ) (marks : List LineMark) (bs : List ℕ) (said : Result (Option Mark) NoMark) (d : List ℕ) → n < length ls → marks_to ls n ≡ Ok marks → bs ≡ get_or ls n d → said ≡ line_in bs → marks_to ls (n + 1) ≡ with_line (n + 1) marks said
line_step ls n marks bs said d h e g s =
    let more : n + 1 ≡ suc n = omega arith in
    ap (marks_to ls) more
    ∙ ap (λ r. line_more r (n + 1) (get_or ls n [])) e
    ∙ ap (λ b. with_line (n + 1) marks (line_in b)) (get_or_default ls n [] d h ∙ sym g)
    ∙ ap (with_line (n + 1) marks) (sym s)

-- after a line that is no mark nothing more is read
pub stays : (ls : List (List ℕ)) (n j k : ℕ) → marks_to ls n ≡ Err j → marks_to ls (n + k) ≡ Err j
stays ls n j zero e = let same : n + 0 ≡ n = omega arith in ap (marks_to ls) same ∙ e
stays ls n j (suc k) e =
    let more : n + suc k ≡ suc (n + k) = omega arith in
    ap (marks_to ls) more ∙ ap (λ r. line_more r (n + k + 1) (get_or ls (n + k) [])) (stays ls n j k e)

pub all_ended : (ls : List (List ℕ)) (n j : ℕ) → n ≤ length ls → marks_to ls n ≡ Err j → marks_in ls ≡ Err j
all_ended ls n j h e =
    let whole : length ls ≡ n + (length ls - n) = omega arith in
    ap (marks_to ls) whole ∙ stays ls n j (length ls - n) e

-- an iterator that gives the items xs gives what f reads of them
read_each : {S A B : Type 0} (steps : S → Option A → S → Type 0) (f : A → B) (s : S) (xs : List A) → AlwaysYields steps (λ x. x) s xs → AlwaysYields steps f s (map f xs)
read_each steps f s [] h = h
read_each steps f s (x ∷ xs) h = (h.0, λ y t k. let next = h.1 y t k in (ap f next.0, read_each steps f t xs next.1))

pub YieldsList-read : {S A B : Type 0} {steps : S → Option A → S → Type 0} {s : S} {xs : List A} (f : A → B) → YieldsList steps (λ x. x) s xs → YieldsList steps f s (map f xs)
YieldsList-read {steps = steps} {s = s} {xs = xs} f h = record { runs = read_each steps f s xs h.runs }

-- An iterator of the lines ls that is counted from 0. xs are what it gave so far, t is where it stands, and r is what it gives next.
module _ {S : Type 0} (steps : S → Option (Bor (List ℕ)) → S → Type 0) {i : S} {e s : Enumerate S} (ls : List (List ℕ)) (all : AlwaysYields steps (λ l. l.now) i ls) (from : s ≡ e) (source : enumerate_source e ≡ i) (count : enumerate_count e ≡ 0) where
  counted : YieldsList {B = ℕ × List ℕ} (enumerate_steps steps) (λ p. (p.0, p.1.now)) s (enumerate_from 0 ls)
  counted = YieldsList-at from (YieldsList-from_enumerate {steps = steps} (YieldsList-at source (record { runs = all })) count)

  module _ (xs : List (ℕ × Bor (List ℕ))) (t : Enumerate S) (so_far : Yields (enumerate_steps steps) s xs t) (r : Option (ℕ × Bor (List ℕ))) (u : Enumerate S) (step : enumerate_steps steps t r u) where
    -- it gives the next line, with how many came before
    next_line : (x : ℕ × Bor (List ℕ)) → r ≡ Some x → (length xs < length ls) × (x.0 ≡ length xs) × (x.1.now ≡ get_or ls (length xs) x.1.now)
    next_line x is =
        let turn = YieldsList-turn counted xs t so_far r u x is step in
        let fits : length xs < length ls = omega (arith, turn.0, length-enumerate_from 0 ls) in
        let at = turn.1 ∙ get_or-enumerate_from 0 ls (length xs) (x.0, x.1.now) fits in
        let place : 0 + length xs ≡ length xs = omega arith in
        (fits, ap (λ p. p.0) at ∙ place, ap (λ p. p.1) at)

    -- what the next line makes of the marks so far
    pub more_marks : (marks : List LineMark) (x : ℕ × Bor (List ℕ)) (bs : List ℕ) (said : Result (Option Mark) NoMark) → r ≡ Some x → marks_to ls (length xs) ≡ Ok marks → bs ≡ x.1.now → said ≡ line_in bs → marks_to ls (length xs + 1) ≡ with_line (x.0 + 1) marks said
    more_marks marks x bs said is m b h =
        let line = next_line x is in
        line_step ls (length xs) marks bs said x.1.now line.0 m (b ∙ line.2) h ∙ ap (λ n. with_line (n + 1) marks said) (sym line.1)

    -- a line that is no mark ends them with its number
    pub bad_line : (marks : List LineMark) (x : ℕ × Bor (List ℕ)) (bs : List ℕ) (bad : NoMark) → r ≡ Some x → marks_to ls (length xs) ≡ Ok marks → bs ≡ x.1.now → Err bad ≡ line_in bs → marks_in ls ≡ Err (x.0 + 1)
    bad_line marks x bs bad is m b h =
        let line = next_line x is in
        all_ended ls (length xs + 1) (x.0 + 1) (omega (arith, line.0)) (more_marks marks x bs (Err bad) is m b h)

    -- after the last line there are no more marks
    pub no_line : (marks : List LineMark) → r ≡ None → marks_to ls (length xs) ≡ Ok marks → marks_in ls ≡ Ok marks
    no_line marks is m =
        let end = YieldsList-end counted xs t so_far r u is step in
        let same : length ls ≡ length xs = omega (arith, end.1, length-enumerate_from 0 ls) in
        ap (marks_to ls) same ∙ m
