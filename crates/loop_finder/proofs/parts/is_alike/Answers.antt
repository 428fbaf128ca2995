use Rattle.std.proofs.Common.{◌<◌, length, arith}
use Rattle.loop_finder.specs.Mixes.{Mix, mix_of}
use Rattle.loop_finder.proofs.AlikeLaws.{covered_alike, sound_alike}
use Rattle.loop_finder.proofs.parts.is_alike.Goals as goal

pub returns-in-Some : goal.returns-in-Some
returns-in-Some g c =
    let m : Mix = mix_of g.O.RouteSource.table g.N.RouteSource.table c.args.mixed.now in
    let earlier : c.in-Some.field-0 < c.args.atom = c.in-Some.ensures.earlier in
    let within : c.in-Some.field-0 < length c.args.mixed.now.classes.samples = omega (arith, earlier, c.requires.atom) in
    covered_alike m c.args.parts.now.items c.in-Some.field-0 c.args.atom earlier
    (sound_alike m c.in-Some.field-0 c.args.atom c.requires.network c.requires.parts.classes c.have_answers.ensures within
    c.requires.atom c.in-Some.ensures.alike) (c.requires.parts.covered c.in-Some.field-0 earlier)
