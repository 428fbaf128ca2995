use Rattle.std.proofs.Common.{ℕ, ◌∷◌, List, codes, arith, sym, ap, subst}
use Rattle.std.proofs.lemmas.List.{length-map}
use Rattle.std.proofs.lemmas.List.Elements.{All-rest}
use Rattle.net_addr.specs.AddressWords.{IsAddressWord}
use Rattle.net_addr.specs.Spans.{bytes_of, LiesIn}
use Rattle.net_addr.specs.declared.span.Span.{Span}
use Rattle.refutation_check.specs.steps.Spans.{span_texts}
use Rattle.refutation_check.proofs.ShapeFacts.{no_address}
use Rattle.refutation_check.proofs.shape.branch_shape.Goals as goal

pub returns-in_err-address-2-clause-none : goal.returns-in_err-address-2-clause-none
returns-in_err-address-2-clause-none c = rw c.from_residual-in_err-address-2.ensures (λ a es line all.
    let parts = ap (span_texts c.args.text.now) c.in_ok-address.ensures.cases.0 in
    no_address (span_texts c.args.text.now c.args.others.now) (span_texts c.args.text.now c.in_ok-address.entries.now) es
    (bytes_of c.args.text.now c.in_ok-address.address.now) a parts
    (λ x stands. c.in_err-address-2.ensures x (subst (λ (w : List ℕ). IsAddressWord w x) (sym c.bytes_at.ensures) stands)) line)

pub are_entries-requires : goal.are_entries-requires
are_entries-requires c = All-rest (LiesIn c.args.text.now) c.in_ok-address.address.now c.in_ok-address.entries.now c.args.others.now
    c.in_ok-address.ensures.cases.0 c.requires

pub returns-clause-some : goal.returns-clause-some
returns-clause-some c = λ items. record {
  line = record {
    address = bytes_of c.args.text.now c.in_ok-address.address.now;
    words_are = ap (λ (l : List Span). codes "branch" ∷ span_texts c.args.text.now l) c.in_ok-address.ensures.cases.0;
    stands = subst (λ (w : List ℕ). IsAddressWord w c.in_ok-address-2.address) c.bytes_at.ensures c.in_ok-address-2.ensures;
    some = omega (arith, length-map c.in_ok-address.entries.now (bytes_of c.args.text.now), c.if-entries-lt2.false);
  };
  tagged = c.are_entries.ensures.0 c.if-not-are_entries.false;
  inside = All-rest (LiesIn c.args.text.now) c.in_ok-address.address.now c.in_ok-address.entries.now c.args.others.now c.in_ok-address.ensures.cases.0
      c.requires;
}
