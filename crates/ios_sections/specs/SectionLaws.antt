-- Laws of how the lines of a text are read, in the words of the field: which lines are outside banners, how `end` lines cut
-- them into configurations, and which process is the router's.
use Rattle.std.specs.Prelude.{◌≡◌, ◌≤◌, ◌↔◌, true, false, List, [], ◌∷◌, ◌++◌, MatchOption, All, Contains}
use Rattle.ios_sections.specs.TextLines.{TextLine, Part, is_end, parts_after, rest_after, opens_banner, closes_banner, outside_banner, outside_banners}
use Rattle.ios_sections.specs.JoinedLines.{is_in_banner}
use Rattle.ios_sections.specs.Processes.{least_mention}
use Rattle.ios_sections.specs.declared.process.Mention.{Mention}

-- a line that is in no banner opens one, and no line behind it holds `^C`
pub record IsLeftOpen (lines : List TextLine) : Type 0 where
  pub before : List TextLine
  pub opening : TextLine
  pub after : List TextLine
  pub joined : lines ≡ before ++ opening ∷ after
  pub outside : is_in_banner before ≡ false
  pub opens : opens_banner opening ≡ true
  pub unclosed : All (λ (line : TextLine). closes_banner line ≡ false) after

-- behind some lines a banner is open exactly where one of them opened it and none has closed it since
abbrev pub OpenBannerLaw : Type 0
OpenBannerLaw = (lines : List TextLine) → (is_in_banner lines ≡ true) ↔ IsLeftOpen lines

-- a line is outside banners exactly where behind the lines before it none is open
abbrev pub OutsideBannersLaw : Type 0
OutsideBannersLaw =
    (before : List TextLine) (line : TextLine) → outside_banners false (before ++ line ∷ []) ≡ outside_banners false before
    ++ outside_banner (is_in_banner before) line

-- none of these lines is an `end` line
abbrev pub HasNoEnd : List TextLine → Type 0
HasNoEnd lines = All (λ (line : TextLine). is_end line ≡ false) lines

-- the lines are those of the first configuration, its `end` line, those of the next one, and so on, and then the rest; each
-- configuration has the number of its `end` line, and no other line is one
abbrev pub AreCut : List Part → List TextLine → List TextLine → Type 0
AreCut [] rest lines = (lines ≡ rest) × HasNoEnd rest
AreCut (part ∷ parts) rest lines =
    (ending : TextLine) × (after : List TextLine) × (lines ≡ part.lines ++ ending ∷ after) × (is_end ending ≡ true) ×
    (part.ends ≡ ending.number) × HasNoEnd part.lines × AreCut parts rest after

-- `end` lines cut the lines that count into configurations and a rest
abbrev pub EndLinesLaw : Type 0
EndLinesLaw = (lines : List TextLine) → AreCut (parts_after [] lines) (rest_after [] lines) lines

-- no line that names a process stands before this one
pub record IsFirstMention (mentions : List Mention) (mention : Mention) : Type 0 where
  pub among : Contains mentions mention
  pub first : All (λ (other : Mention). mention.line ≤ other.line) mentions

-- the process of the router is the one that is named first
abbrev pub FirstMentionLaw : Type 0
FirstMentionLaw = (mentions : List Mention) → MatchOption (least_mention mentions) (mentions ≡ []) (IsFirstMention mentions)
