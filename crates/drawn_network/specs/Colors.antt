-- How waves and areas are told apart: a colour a wave, a style of line an area.
use Rattle.std.specs.Prelude.{ℕ, ◌%◌, nat_lt, List, [], ◌∷◌, ◌++◌, codes, count_by, Option, Some, None, slice_index_or}

-- the colours of the waves; behind the twelfth they begin anew
abbrev pub wave_colors : List (List ℕ)
wave_colors =
    codes "#9ecae1" ∷ codes "#a1d99b" ∷ codes "#fdd0a2" ∷ codes "#dadaeb" ∷ codes "#fcc5c0" ∷ codes "#fee391" ∷ codes "#c7e9c0"
    ∷ codes "#decbe4" ∷ codes "#ccebc5" ∷ codes "#d9d9d9" ∷ codes "#fed9a6" ∷ codes "#b3cde3" ∷ []

abbrev pub color_of : ℕ → List ℕ
color_of w = slice_index_or wave_colors (w % 12) []

-- the styles of the lines; behind the fourth they begin anew
abbrev pub line_styles : List (List ℕ)
line_styles = codes "solid" ∷ codes "dashed" ∷ codes "dotted" ∷ codes "bold" ∷ []

abbrev pub style_at : ℕ → List ℕ
style_at k = slice_index_or line_styles (k % 4) []

-- the same below a cell of the legend
abbrev pub cell_borders : List (List ℕ)
cell_borders =
    codes "border=\"1\"" ∷ codes "border=\"1\" style=\"dashed\"" ∷ codes "border=\"1\" style=\"dotted\"" ∷ codes "border=\"3\"" ∷ []

abbrev pub border_at : ℕ → List ℕ
border_at k = slice_index_or cell_borders (k % 4) []

-- the place of an area among those of a picture: how many of them are lower
abbrev pub area_place : List ℕ → ℕ → ℕ
area_place areas n = count_by (λ m. nat_lt m n) areas

-- how a line is drawn: in the style of its area, and grey without one
abbrev pub line_look : List ℕ → Option ℕ → List ℕ
line_look areas (Some n) = codes "style=" ++ style_at (area_place areas n)
line_look areas None = codes "color=\"#bbbbbb\""
