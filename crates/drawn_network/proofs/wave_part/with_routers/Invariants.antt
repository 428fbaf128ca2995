use Rattle.std.proofs.Common.{◌≡◌, ◌++◌, take}
use Rattle.std.specs.List.{flat_map}
use Rattle.drawn_network.specs.Marks.{fault_marked}
use Rattle.drawn_network.specs.RouterLines.{line_of_router}
use Rattle.drawn_network.proofs.wave_part.with_routers.Given as goal

abbrev pub invariant-loop-router : goal.invariant-loop-router
invariant-loop-router l =
    l.drawing ≡ l.fn.drawing
    ++ flat_map (line_of_router l.told.net.now (fault_marked l.told.mark) l.told.target l.wave) (take l.router-index l.routers)
