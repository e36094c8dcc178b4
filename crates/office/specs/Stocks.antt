use Rattle.std.specs.Prelude.{◌≡◌, ℕ, List, length, vec_items}
use Rattle.std.specs.Global.{Vec}
use Rattle.ends.specs.Bytes.{pages_in}
use Rattle.defects.specs.declared.mark.Mark.{Mark}
use Rattle.volume.specs.Volume.{Unopened, shipped_row, shipped_size}
use Rattle.stock.specs.declared.book.Layout.{Layout}
use Rattle.stock.specs.declared.line.Line.{Line}
use Rattle.stock.specs.Lines.{lines_to}
use Rattle.office.specs.declared.take.StockFault.{StockFault}
use Rattle.office.specs.declared.take.StockFault.TheVariants as fault

-- How the books stand in the volume.
abbrev pub layout_of : List ℕ → List ℕ → Layout
layout_of batch fees = record { batch_pages = pages_in (length batch); fee_pages = pages_in (length fees) }

-- The stock of the shipped volume: a line for each page of its row.
abbrev pub Taken : List ℕ → List ℕ → List ℕ → List Mark → Vec Line → Type 0
Taken batch fees archive marks v = vec_items v ≡ lines_to (layout_of batch fees) (shipped_row batch fees archive marks) (shipped_size batch fees archive)

-- No stock is taken where a mark is refused, or memory is short.
abbrev pub NotTaken : List ℕ → List Mark → StockFault → Type 0
NotTaken batch marks (fault.Mark e) = Unopened batch marks e
NotTaken batch marks fault.Memory = Unit {0}
