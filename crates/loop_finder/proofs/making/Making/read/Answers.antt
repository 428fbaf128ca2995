use Rattle.std.proofs.lemmas.Grind.{common_steps}
use Rattle.std.proofs.Common.{ℕ, Bool, List, length, arith, sym, subst}
use Rattle.std.proofs.lemmas.List.{with_items_is}
use Rattle.loop_finder.specs.Mixes.{Mix, mix_of, class_in}
use Rattle.loop_finder.specs.steps.Ends.{EndStep, HasBothSteps}
use Rattle.loop_finder.specs.steps.Making.{ReadsSeen}
use Rattle.loop_finder.specs.steps.Parts.{AreAllBut}
use Rattle.loop_finder.specs.steps.Returns.{MarksAgain, MarksReturns}
use Rattle.loop_finder.proofs.PartRows.{are_still, is_read, returns_again}
use Rattle.loop_finder.proofs.making.Making.read.Goals as goal

pub read_class-requires-clause-routers : goal.read_class-requires-clause-routers
read_class-requires-clause-routers g c = rw c.as_slice-changed.ensures.value c.requires.unlike.unlike.below

pub find_still-requires-clause-still : goal.find_still-requires-clause-still
find_still-requires-clause-still g c = rw c.read_class.ensures.olds c.requires.unlike.class.still_is.below

pub find_still-requires-clause-changed : goal.find_still-requires-clause-changed
find_still-requires-clause-changed g c = rw (c.read_class.ensures.olds, c.as_slice-changed.ensures.value) c.requires.unlike.unlike.below

pub returns-clause-read : goal.returns-clause-read
returns-clause-read g c = grind (arith, common_steps, is_read)

pub returns-clause-still : goal.returns-clause-still
returns-clause-still g c =
    are_still (mix_of g.O.RouteSource.table g.N.RouteSource.table c.args.mixed.now) c.args.self.now c.args.atom c.read_class.new.lists
    c.find_still.new.still.items c.requires.unlike (rw (← c.as_slice-changed.ensures.value) c.read_class.ensures.reads)
    (rw (← c.read_class.ensures.olds) c.in_ok-find_still.ensures.below) c.in_ok-find_still.ensures.was
    (rw (← c.as_slice-changed.ensures.value) c.in_ok-find_still.ensures.changed)

pub returns-clause-class : goal.returns-clause-class
returns-clause-class g c =
    let m : Mix = mix_of g.O.RouteSource.table g.N.RouteSource.table c.args.mixed.now in
    let reads : ReadsSeen (class_in m c.args.atom) c.args.self.now.changed.items c.args.self.now.lists c.read_class.new.lists =
    rw (← c.as_slice-changed.ensures.value) c.read_class.ensures.reads in
    let again : MarksAgain (EndStep c.read_class.new.lists) c.args.self.now.changed.items c.args.self.now.marks.items c.mark_returns.new.marks =
    subst (λ (xs : List ℕ). MarksAgain (EndStep c.read_class.new.lists) xs c.args.self.now.marks.items c.mark_returns.new.marks)
    c.as_slice-changed.ensures.value
    (subst (λ (marks : List Bool). MarksAgain (EndStep c.read_class.new.lists) c.as_slice-changed.result.now marks c.mark_returns.new.marks)
    c.deref_mut.ensures.value c.mark_returns.ensures) in
    let still : AreAllBut (HasBothSteps c.read_class.new.lists) (length m.net) c.find_still.new.still.items =
    are_still m c.args.self.now c.args.atom c.read_class.new.lists c.find_still.new.still.items c.requires.unlike reads
    (rw (← c.read_class.ensures.olds) c.in_ok-find_still.ensures.below) c.in_ok-find_still.ensures.was
    (rw (← c.as_slice-changed.ensures.value) c.in_ok-find_still.ensures.changed) in
    record {
      making_is = record {
        olds_many = c.read_class.ensures.olds;
        news_many = c.read_class.ensures.news;
        marks_many = c.requires.unlike.class.making_is.marks_many;
        returns = subst (λ (marks : List Bool). MarksReturns (EndStep c.read_class.new.lists) marks)
            (sym (with_items_is c.args.self.now.marks c.mark_returns.new.marks (omega (arith, c.mark_returns.auto.marks, c.deref_mut.ensures.len))))
            (returns_again c.args.self.now.lists c.read_class.new.lists (length m.net) c.args.self.now.changed.items c.args.self.now.marks.items
            c.mark_returns.new.marks c.read_class.ensures.olds c.read_class.ensures.news
            (record { below = c.requires.unlike.unlike.below; whole = λ u router. reads.rest u }) c.requires.unlike.class.making_is.returns again);
      };
      known_is = is_read m c.args.self.now c.args.atom c.read_class.new.lists c.requires.least c.requires.unlike
          c.read_class.ensures.olds c.read_class.ensures.news reads;
      still_is = record { below = still.below; listed = still };
    }
