-- Tables of what the lines of an OSPF process say of its areas, each value under its key.
use Rattle.std.specs.Prelude.{◌≡◌, ℕ, List, Option, map, unwrap_or, All}
use Rattle.net_model.specs.declared.area.Range.{Range}
use Rattle.net_model.specs.declared.area.Stub.{Stub}
use Rattle.ios_lines.specs.declared.ospf_line.StubLine.{StubLine}

-- the values of a table, in order
abbrev pub values_in : {K V : Type 0} → List (K × V) → List V
values_in {K} {V} es = map (λ (e : K × V). e.1) es

-- each value of a table stands under its key
abbrev pub AreKeyed : {K V : Type 0} → (V → K) → List (K × V) → Type 0
AreKeyed {K} {V} key es = All (λ (e : K × V). e.0 ≡ key e.1) es

-- the area, the base and the length of the prefix of a range
abbrev pub range_key : Range → ℕ × ℕ × ℕ
range_key r = (r.area, r.dest.base, r.dest.len)

-- the area of a stub line
abbrev pub stub_key : StubLine → ℕ
stub_key s = s.area

-- a stub area with the default cost of its number, or 1
abbrev pub stub_made : (ℕ → Option ℕ) → StubLine → Stub
stub_made cost stub = record { area = stub.area; no_summary = stub.no_summary; default_cost = unwrap_or (cost stub.area) 1 }
