use Rattle.std.proofs.lemmas.Grind.{common_steps}
use Rattle.std.proofs.Common.{List, length, ap, arith, ◌∙◌}
use Rattle.std.proofs.lemmas.List.{length_push}
use Rattle.link_trail.specs.declared.moves.Move.{Move}
use Rattle.link_trail.specs.steps.Splices.{kept}
use Rattle.link_trail.specs.steps.Undoing.{TakesBack}
use Rattle.link_trail.proofs.MoveLemmas.{before-more}
use Rattle.link_trail.proofs.WholeLemmas.{latest, links-back, refilled}
use Rattle.link_trail.proofs.links.Links.undo_last.Goals as goal

pub take_back-requires : goal.take_back-requires
take_back-requires c = grind (arith, common_steps, latest)

pub invariant_of-self : goal.invariant_of-self
invariant_of-self c =
    let a = c.self.inside in
    let back : TakesBack (kept a.nodes.items a.ends.items) (kept c.take_back.new.nodes c.take_back.new.ends) c.in-Some.latest =
    rw (c.deref_mut.ensures.value, c.deref_mut-in-Some.ensures.value) at c.take_back.ensures in
    record {
      links = rw (
        refilled a.nodes.len c.take_back.new.nodes a.nodes.items (omega arith),
        refilled a.ends.len c.take_back.new.ends a.ends.items (omega arith),
      )
          (links-back a.nodes.items c.take_back.new.nodes a.ends.items c.take_back.new.ends a.moves.items c.pop.new.self.items c.in-Some.latest
          c.in-Some.ensures.items c.self.invariant.links back (omega arith) (omega arith));
      within = omega (
        arith,
        c.self.invariant.within,
        ap (λ (ms : List Move). length ms) c.in-Some.ensures.items ∙ length_push c.pop.new.self.items c.in-Some.latest,
      );
      reserved = omega (arith, c.self.invariant.reserved);
      bound = c.self.invariant.bound;
    }

pub returns-in-Some-clause-trail : goal.returns-in-Some-clause-trail
returns-in-Some-clause-trail c = grind (arith, common_steps, before-more, refilled)
