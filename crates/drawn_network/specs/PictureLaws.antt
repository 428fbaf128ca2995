-- What the laws of pictures say.
use Rattle.std.specs.Prelude.{◌≡◌, ◌≢◌, ℕ, ◌^◌, ◌<◌, ◌↔◌, Bool, List, ◌∷◌, ◌++◌, All, Option}
use Rattle.net_model.specs.Network.{Network}
use Rattle.net_model.specs.Refusals.{IsNetwork}
use Rattle.igp_theory.specs.Loops.{Fault}
use Rattle.drawn_network.specs.Pictures.{IsPicture}
use Rattle.drawn_network.specs.Quotes.{ClosesBefore, escaped, html}
use Rattle.drawn_network.specs.RouterLines.{router_label}

-- a network, a list and a fault have one picture
abbrev pub HaveOnePicture : Type 0
HaveOnePicture =
    (net : Network) (ranks said : List ℕ) (fault : Option Fault) (text other : List ℕ) → IsNetwork net →
    IsPicture net ranks said fault text → IsPicture net ranks said fault other → text ≡ other

-- whatever a name is, DOT reads it up to its closing quote, and no further
abbrev pub NamesEndAtTheirQuote : Type 0
NamesEndAtTheirQuote =
    (name behind rest : List ℕ) → ClosesBefore (escaped name ++ 34 ∷ behind) rest ↔ rest ≡ behind

-- and so the label of a router
abbrev pub LabelsEndAtTheirQuote : Type 0
LabelsEndAtTheirQuote =
    (name : List ℕ) (w : ℕ) (lacks : Bool) (behind rest : List ℕ) → w < 2 ^ 32 →
    ClosesBefore (router_label name w lacks ++ 34 ∷ behind) rest ↔ rest ≡ behind

-- different names are different nodes
abbrev pub NamesStayApart : Type 0
NamesStayApart = (name other : List ℕ) → escaped name ≡ escaped other → name ≡ other

-- a text in HTML opens and closes nothing: neither `<` (60) nor `>` (62) stands in it
abbrev pub HtmlOpensNothing : Type 0
HtmlOpensNothing = (text : List ℕ) → All (λ b. (b ≢ 60) × (b ≢ 62)) (html text)
