use Rattle.std.proofs.Common.{arith}
use Rattle.layers.proofs.Windows.{window_none}
use Rattle.layers.proofs.window.Window.place.Goals as goal

pub returns : goal.returns
returns g c =
    let s = c.args.self.now in
    grind (arith, window_none s.first s.length (g.D.Device.size s.below) (g.D.Device.row s.below) c.args.page (g.D.Device.shaped s.below))
