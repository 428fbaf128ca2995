-- The text of the sample network, a line or a part of it at a time.
use Rattle.std.proofs.Common.{◌≡◌, ℕ, ◌+◌, suc, ◌++◌, ap, sym, ◌∙◌, arith}
use Rattle.printed_lines.specs.Texts.{text_of}
use Rattle.printed_lines.proofs.TextSteps.{text_of-append}
use Rattle.sample_network.specs.SampleTexts.{sample_router_lines, routers_to}

-- the text of one router more
pub router_more : (n i : ℕ) → text_of (routers_to n (i + 1)) ≡ text_of (routers_to n i) ++ text_of (sample_router_lines n (i + 1))
router_more n i =
    let next : i + 1 ≡ suc i = omega arith in
    ap (λ k. text_of (routers_to n k)) next
    ∙ text_of-append (routers_to n i) (sample_router_lines n (suc i))
    ∙ ap (λ k. text_of (routers_to n i) ++ text_of (sample_router_lines n k)) (sym next)
