use Rattle.std.proofs.Common.{◌≡◌, ℕ, List, sym, ap, subst, ◌∙◌}
use Rattle.indexmap.specs.IndexMap.{insert_entry}
use Rattle.net_model.specs.declared.area.Range.{Range}
use Rattle.ios_reader.specs.Routers.{is_same_range}
use Rattle.ios_reader.specs.steps.Tables.{values_in, AreKeyed, range_key}
use Rattle.ios_reader.proofs.KeyedFacts.{insert_values, insert_keyed, key_eq, key_same, keys_agree}
use Rattle.ios_reader.proofs.areas.with_range.Goals as goal

pub returns-clause-keyed : goal.returns-clause-keyed
returns-clause-keyed c =
    let entries : c.insert.new.self.entries ≡ insert_entry key_eq c.args.ranges.now.entries (range_key c.args.range) c.args.range =
    c.in_ok-insert.ensures.entries ∙ ap (λ (k : ℕ × ℕ × ℕ). insert_entry key_eq c.args.ranges.now.entries k c.args.range) c.range_key-key.ensures in
    subst (λ (es : List ((ℕ × ℕ × ℕ) × Range)). AreKeyed range_key es) (sym entries)
    (insert_keyed key_eq range_key key_same c.args.ranges.now.entries c.args.range c.requires)

pub returns-clause-ranges : goal.returns-clause-ranges
returns-clause-ranges c =
    let entries : c.insert.new.self.entries ≡ insert_entry key_eq c.args.ranges.now.entries (range_key c.args.range) c.args.range =
    c.in_ok-insert.ensures.entries ∙ ap (λ (k : ℕ × ℕ × ℕ). insert_entry key_eq c.args.ranges.now.entries k c.args.range) c.range_key-key.ensures in
    ap (λ (es : List ((ℕ × ℕ × ℕ) × Range)). values_in es) entries
    ∙ insert_values key_eq range_key is_same_range keys_agree c.args.ranges.now.entries c.args.range c.requires
