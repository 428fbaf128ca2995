use Rattle.std.proofs.Common.{refl, inl, inr}
use Rattle.std.proofs.lemmas.Bool.{false≢true}
use Rattle.igp_theory.specs.Forwarding.{MustForward}
use Rattle.loop_finder.proofs.retag.start_tag.Goals as goal

pub returns-in-true-true : goal.returns-in-true-true
returns-in-true-true g c a inside steps =
    let must : MustForward c.args.mixed.now.net a c.args.router = elim steps [ inl one ↦ one.must | inr other ↦ other.must ] in
    ((c.in-true-true.ensures a inside must).0 refl, (c.in-true-true.ensures' a inside must).0 refl)

pub returns-in-true-false : goal.returns-in-true-false
returns-in-true-false g c a inside steps =
    let must : MustForward c.args.mixed.now.net a c.args.router = elim steps [ inl one ↦ one.must | inr other ↦ other.must ] in
    ((c.in-true-false.ensures a inside must).0 refl, λ new. false≢true ((c.in-true-false.ensures' a inside must).1 new))

pub returns-in-false-default : goal.returns-in-false-default
returns-in-false-default g c a inside steps =
    let must : MustForward c.args.mixed.now.net a c.args.router = elim steps [ inl one ↦ one.must | inr other ↦ other.must ] in (
      λ first. false≢true ((c.in-false-default.ensures a inside must).1 first),
      elim steps [ inl first ↦ absurd (false≢true ((c.in-false-default.ensures a inside must).1 first)) | inr new ↦ new ],
    )
