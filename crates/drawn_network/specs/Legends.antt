-- The legend: a table of what is decided, of the colours of the waves, and of the styles of the areas.
use Rattle.std.specs.Prelude.{ℕ, ◌+◌, ◌%◌, ◌==◌, ◌||◌, Bool, if◌then◌else◌, List, [], ◌++◌, codes, decimal, length, max, min}
use Rattle.std.specs.Prelude.{slice_index}
use Rattle.std.specs.List.{flat_map}
use Rattle.order_core.specs.Rankings.{numbers_below}
use Rattle.drawn_network.specs.Colors.{border_at, color_of}
use Rattle.drawn_network.specs.Quotes.{html}

-- so many cells stand in a row: as many as there are waves, or areas where these are more, and at most eight
abbrev pub columns_for : ℕ → ℕ → ℕ
columns_for waves areas = min (max waves areas) 8

-- a row begins before its first cell, and ends behind its last one
abbrev pub row_start : ℕ → ℕ → List ℕ
row_start columns k = if k % columns == 0 then codes "<tr>" else []

abbrev pub row_end : ℕ → ℕ → ℕ → List ℕ
row_end columns count k = if ((k + 1) % columns == 0) || (k + 1 == count) then codes "</tr>" else []

-- a wave on its colour, an area over its line
abbrev pub wave_cell : ℕ → List ℕ
wave_cell w = codes "<td bgcolor=\"" ++ color_of w ++ codes "\">wave " ++ decimal (w + 1) ++ codes "</td>"

abbrev pub area_cell : ℕ → ℕ → List ℕ
area_cell k n = codes "<td sides=\"b\" " ++ border_at k ++ codes ">area " ++ decimal n ++ codes "</td>"

-- the cells of so many waves
abbrev pub wave_part : ℕ → ℕ → ℕ → List ℕ
wave_part columns waves w = row_start columns w ++ wave_cell w ++ row_end columns waves w

abbrev pub wave_rows : ℕ → ℕ → List ℕ
wave_rows columns waves = flat_map (wave_part columns waves) (numbers_below waves)

-- the cells of some areas
abbrev pub area_table : ℕ → List ℕ → ℕ → List ℕ
area_table columns areas k = row_start columns k ++ area_cell k (slice_index areas k) ++ row_end columns (length areas) k

abbrev pub area_rows : ℕ → List ℕ → List ℕ
area_rows columns areas = flat_map (area_table columns areas) (numbers_below (length areas))

-- a row of one wide cell
abbrev pub wide_row : ℕ → List ℕ → List ℕ
wide_row columns text = codes "<tr><td colspan=\"" ++ decimal columns ++ codes "\">" ++ text ++ codes "</td></tr>"

-- what is decided, in larger letters
abbrev pub said_text : List ℕ → List ℕ
said_text said = codes "<font point-size=\"16\">" ++ html said ++ codes "</font>"

-- what stands at the ends of the lines, where there are any
abbrev pub ends_row : ℕ → Bool → List ℕ
ends_row columns lines = if lines then wide_row columns (codes "OSPF cost / IS-IS metric") else []

-- the rows of the legend, for so many columns
abbrev pub legend_rows : ℕ → List ℕ → ℕ → List ℕ → Bool → List ℕ
legend_rows columns said waves areas lines =
    wide_row columns (said_text said) ++ wave_rows columns waves ++ area_rows columns areas ++ ends_row columns lines

-- the line of the legend
abbrev pub legend_line : List ℕ → ℕ → List ℕ → Bool → List ℕ
legend_line said waves areas lines =
    codes "  label=<<table border=\"0\" cellspacing=\"3\">"
    ++ legend_rows (columns_for waves (length areas)) said waves areas lines ++ codes "</table>>;\n"
