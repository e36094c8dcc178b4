-- A grant to update a page, with a place on that page.
use Rattle.std.specs.Prelude.{◌≡◌, None}
use Rattle.device.specs.declared.device.Device as device
use Rattle.policy.specs.declared.policy.Policy as policy
use Rattle.book.specs.Book.{is_granted}
use Rattle.book.specs.declared.grant.Kind.TheVariants.{Updating}
use Rattle.pool.specs.Meaning.{book}
use Rattle.pool.specs.declared.pool.Pool.{Pool}
use Rattle.ledger.specs.declared.held.Held.{Held}
use Rattle.ledger.specs.declared.spot.Spot.{Spot}

abbrev pub spot_of : Held → Spot
spot_of h = record { page = h.grant.now.page; place = h.place }

-- The grant is out.
abbrev pub GrantOut : {D P : Type 0} {d : device.Ghosts D} {p : policy.Ghosts P} → Pool D P d p → Held → Type 0
GrantOut pool h = is_granted (book pool) Updating h.grant.now.mark h.grant.now.page ≡ None
