-- Worked cases of the definitions.
use Rattle.std.specs.Prelude.{◌≡◌, ℕ, cond, List, [], ◌∷◌, ◌++◌, map, replicate, Some, None, ◌==◌, nat_lt}
use Rattle.page.specs.Numbers.{number_of}
use Rattle.page.specs.declared.origin.Origin.{Origin}
use Rattle.page.specs.declared.refusal.Refusal.TheVariants.{LostPage, WornPage, NotGranted}
use Rattle.device.specs.Row.{sound, worn, lost}
use Rattle.book.specs.declared.grant.Kind.TheVariants.{Reading, Updating}
use Rattle.book.specs.declared.grant.Ticket.{Ticket}
use Rattle.book.specs.Book.{Book, opened, with_grants, told}
use Rattle.book.specs.Call.{Call, Answer}
use Rattle.book.specs.Call.Call.{Fix, Read, Write, Unfix, Flush, FlushAll, Close}
use Rattle.book.specs.Call.Answer.{Granted, Copied, Done, Refused}

-- The number of an answer: of a refusal its own, and 0 of any other.
abbrev pub number : Answer → ℕ
number (Granted g) = 0
number (Copied bs) = 0
number Done = 0
number (Refused r) = number_of r

abbrev pub numbers : Book → List Call → List ℕ
numbers b calls = map number (told b calls)

-- The book of six sound pages of zeros, with the mark 9, at its opening and at a time.
abbrev pub six : (bound : ℕ) → Book
six bound = opened 6 bound 9 (λ page. cond (nat_lt page 6) (Some (sound (replicate 512 0))) None)

abbrev pub six_at : (bound clock : ℕ) → Book
six_at bound clock = with_grants (six bound) clock Reading 0 0

-- The book of a lost page 0 and a worn page 1, both made so two layers down, where the page is 7.
abbrev pub far : Origin
far = record { page = 7; depth = 2 }

abbrev pub two : (bound : ℕ) → Book
two bound = opened 2 bound 9 (λ page. cond (page == 0) (Some (lost far)) (cond (page == 1) (Some (worn far (replicate 512 5))) None))

-- Grants of these books.
abbrev pub to_read : ℕ → Ticket
to_read page = record { kind = Reading; mark = 9; page = page }

abbrev pub to_update : ℕ → Ticket
to_update page = record { kind = Updating; mark = 9; page = page }

pub record Figures (bound : ℕ) : Type 0 where
  -- Four pages held: a fifth gets 7, a second fix of one of the four is accepted.
  pub fifth : numbers (six bound) (Fix Reading 0 ∷ Fix Reading 1 ∷ Fix Updating 2 ∷ Fix Reading 3 ∷ Fix Reading 4 ∷ Fix Updating 0 ∷ []) ≡ 0 ∷ 0 ∷ 0 ∷ 0 ∷ 7 ∷ 0 ∷ []
  -- Offset 512 with length 0 is accepted; 511 with length 2 gets 9, with length 1 not; another mark gets 8.
  pub ends : numbers (six bound) (Fix Updating 0 ∷ Write 9 0 512 [] ∷ Write 9 0 511 (1 ∷ 2 ∷ []) ∷ Write 9 0 511 (1 ∷ []) ∷ Write 8 0 0 [] ∷ []) ≡ 0 ∷ 0 ∷ 9 ∷ 0 ∷ 8 ∷ []
  pub reads : numbers (six bound) (Fix Reading 0 ∷ Read (to_read 0) 512 0 ∷ Read (to_read 0) 511 2 ∷ []) ≡ 0 ∷ 0 ∷ 9 ∷ []
  -- What was written is read, beside what was there.
  pub copies : told (six bound) (Fix Updating 5 ∷ Write 9 5 510 (7 ∷ 8 ∷ []) ∷ Read (to_update 5) 509 3 ∷ []) ≡ Granted (to_update 5) ∷ Done ∷ Copied (0 ∷ 7 ∷ 8 ∷ []) ∷ []
  -- There is no page 6.
  pub absent : numbers (six bound) (Fix Reading 6 ∷ Flush 6 ∷ Flush 5 ∷ FlushAll ∷ Close ∷ []) ≡ 2 ∷ 2 ∷ 0 ∷ 0 ∷ 0 ∷ []
  -- A grant that was given back is no longer out, and a grant to read is not one for update.
  pub back : numbers (six bound) (Fix Reading 1 ∷ Unfix (to_update 1) ∷ Unfix (to_read 1) ∷ Unfix (to_read 1) ∷ []) ≡ 0 ∷ 8 ∷ 0 ∷ 8 ∷ []
  -- The 256th grant on a page gets 6.
  pub many : numbers (six bound) (replicate 256 (Fix Reading 0)) ≡ replicate 255 0 ++ 6 ∷ []
  -- A lost page is neither read nor written, a worn one is only read, and both tell their origin.
  pub origins : told (two bound) (Fix Reading 0 ∷ Fix Updating 0 ∷ Fix Updating 1 ∷ Fix Reading 1 ∷ Read (to_read 1) 510 2 ∷ Write 9 1 0 [] ∷ []) ≡ Refused (LostPage far) ∷ Refused (LostPage far) ∷ Refused (WornPage far) ∷ Granted (to_read 1) ∷ Copied (5 ∷ 5 ∷ []) ∷ Refused NotGranted ∷ []
  -- A fix makes the last time; then every fix gets 5, but for a page that is not there.
  pub time : numbers (six_at bound 4294967294) (Fix Reading 0 ∷ Fix Reading 0 ∷ Fix Reading 6 ∷ Unfix (to_read 0) ∷ Fix Updating 0 ∷ []) ≡ 0 ∷ 5 ∷ 2 ∷ 0 ∷ 5 ∷ []
