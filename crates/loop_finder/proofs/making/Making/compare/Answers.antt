use Rattle.std.proofs.Common.{length, refl}
use Rattle.rib_mix.specs.Answers.{IsAlikeToKnown}
use Rattle.loop_finder.specs.Mixes.{Mix, mix_of, migration_in}
use Rattle.loop_finder.proofs.PartRows.{all_but_added}
use Rattle.loop_finder.proofs.making.Making.compare.Goals as goal

pub returns : goal.returns
returns g c =
    let m : Mix = mix_of g.O.RouteSource.table g.N.RouteSource.table c.args.mixed.now in
    record {
      class = record {
        making_is = record {
          olds_many = c.requires.class.making_is.olds_many;
          news_many = c.requires.class.making_is.news_many;
          marks_many = c.requires.class.making_is.marks_many;
          returns = c.requires.class.making_is.returns;
        };
        known_is = c.requires.class.known_is;
        still_is = record { below = c.requires.class.still_is.below; listed = c.requires.class.still_is.listed };
      };
      unlike = all_but_added (IsAlikeToKnown (migration_in m) m.classes c.args.self.now.known c.args.atom) (length m.net)
          c.clear.new.self.items c.add_unlike.new.unlike.items c.add_unlike.new.unlike.items c.clear.ensures.items refl c.in_ok-add_unlike.ensures;
    }
