-- Groups of texts of configurations: each gives one network, or the first that gives none is refused in one way.
use Rattle.std.proofs.Common.{arith}
use Rattle.std.proofs.lemmas.Grind.{common_steps}
use Rattle.std.proofs.Common.{◌≡◌, ◌≢◌, ◌∙◌, List, [], ◌∷◌, ◌++◌, ℕ, map, refl, sym, ap, ap₂, subst, append-nil, append_assoc}
use Rattle.isis_writer.specs.ReadTexts.{ReadsTexts}
use Rattle.ios_reader.specs.Texts.{ReadsText}
use Rattle.ios_reader.specs.declared.kind.ReadKind.{ReadKind}
use Rattle.net_model.specs.Configuration.{Configuration}
use Rattle.net_model.specs.Network.{Network}
use Rattle.net_model.specs.Refusals.{MakeNetwork, NamesAscend, Refuses}
use Rattle.net_model.specs.declared.refusal.NetRefusal.{NetRefusal}
use Rattle.net_model.specs.declared.refusal.NetRefusal.TheVariants.{OutOfMemory}
use Rattle.net_model.proofs.RefusalLaws.{IsNetworkOf-unique, MakeNetwork-refused, Refuses-unique}
use Rattle.migrate_words.specs.declared.command.CommandKind.{CommandKind}
use Rattle.migrate_cli.specs.CommandFiles.{AsksNetworks, OverNetworks, alone, groups_of}
use Rattle.migrate_cli.specs.Configurations.{GiveNetwork, GiveNetworks, IsFirstRefused, RefusesFirst, line_fault}
use Rattle.migrate_cli.specs.Configurations.RefusesFirst.{here, later}
use Rattle.migrate_cli.specs.steps.Unread.{ReadsBoth}
use Rattle.migrate_cli.proofs.TextLaws.{none_refused, one_reading}

-- ---- one group ----

-- texts give one network
pub one_network : (texts : List (List ℕ)) (net other : Network) → GiveNetwork texts net → GiveNetwork texts other → net ≡ other
one_network texts net other a b =
    let same = one_reading texts a.configs b.configs a.read b.read in
    let make : MakeNetwork b.configs net = subst (λ some. MakeNetwork some net) same a.make in
    IsNetworkOf-unique b.configs net other make.network b.make.network

-- or they give none
pub refused_or_given : (texts : List (List ℕ)) (net : Network) (all : List Configuration) (refusal : NetRefusal) → GiveNetwork texts net →
    ReadsTexts texts all → Refuses refusal all → refusal ≢ OutOfMemory → ⊥
refused_or_given texts net all refusal gives read refuses told =
    let same = one_reading texts gives.configs all gives.read read in
    told (MakeNetwork-refused all net refusal (subst (λ some. MakeNetwork some net) same gives.make) refuses)

-- ---- all groups ----

-- the texts of all groups
abbrev joined : List (List (List ℕ)) → List (List ℕ)
joined [] = []
joined (texts ∷ groups) = texts ++ joined groups

joined_alone : (texts : List (List ℕ)) → joined (map alone texts) ≡ texts
joined_alone [] = refl
joined_alone (text ∷ texts) = ap (λ (rest : List (List ℕ)). text ∷ rest) (joined_alone texts)

groups_join : (kind : CommandKind) (texts : List (List ℕ)) → AsksNetworks kind → joined (groups_of kind texts) ≡ texts
groups_join kind texts asks = grind (arith, common_steps, joined_alone)

-- a command over one network has one group
pub one_group : (kind : CommandKind) (texts : List (List ℕ)) → AsksNetworks kind → (OverNetworks kind → ⊥) → groups_of kind texts ≡ texts ∷ []
one_group kind texts asks not = grind (arith, common_steps)

-- so its network is the one of its texts
pub gives_one : (kind : CommandKind) (texts : List (List ℕ)) (net : Network) → AsksNetworks kind → (OverNetworks kind → ⊥) → GiveNetwork texts net →
    GiveNetworks (groups_of kind texts) (net ∷ [])
gives_one kind texts net asks not gives = grind (arith, common_steps, one_group)

-- and one over two networks a group for each text
pub two_groups : (kind : CommandKind) (old new : List ℕ) → OverNetworks kind → groups_of kind (old ∷ new ∷ []) ≡ alone old ∷ alone new ∷ []
two_groups kind old new over = grind (arith, common_steps)

-- it asks for networks
pub over_asks : (kind : CommandKind) → OverNetworks kind → AsksNetworks kind
over_asks kind over = grind (arith, common_steps)

-- texts and more texts are read
pub reads_append : (texts more : List (List ℕ)) (one other : List Configuration) → ReadsTexts texts one → ReadsTexts more other →
    ReadsTexts (texts ++ more) (one ++ other)
reads_append [] more one other none reads = subst (λ (some : List Configuration). ReadsTexts more (some ++ other)) (sym none) reads
reads_append (text ∷ texts) more one other first reads = record {
  one = first.one;
  others = first.others ++ other;
  reads = first.reads;
  rest = reads_append texts more first.others other first.rest reads;
  all = ap (λ some. some ++ other) first.all ∙ append_assoc first.one first.others other;
}

-- where all groups give networks all texts are read
all_read : (groups : List (List (List ℕ))) (nets : List Network) → GiveNetworks groups nets →
    (configs : List Configuration) × ReadsTexts (joined groups) configs
all_read [] [] gives = ([], refl)
all_read [] (net ∷ nets) gives = absurd gives
all_read (texts ∷ groups) [] gives = absurd gives
all_read (texts ∷ groups) (net ∷ nets) gives =
    let rest = all_read groups nets gives.1 in (gives.0.configs ++ rest.0, reads_append texts (joined groups) gives.0.configs rest.0 gives.0.read rest.1)

-- so none is refused
pub given_unrefused : (kind : CommandKind) (texts : List (List ℕ)) (nets : List Network) {names : List (List ℕ)} {file : List ℕ} {line : ℕ}
    {fault : ReadKind} → AsksNetworks kind → GiveNetworks (groups_of kind texts) nets → IsFirstRefused (line_fault line fault) names texts file → ⊥
given_unrefused kind texts nets asks gives first = grind (arith, common_steps, all_read, groups_join, none_refused)

-- groups give networks in one way
pub same_networks : (groups : List (List (List ℕ))) (nets others : List Network) → GiveNetworks groups nets → GiveNetworks groups others →
    nets ≡ others
same_networks [] [] [] one two = refl
same_networks [] [] (other ∷ others) one two = absurd two
same_networks [] (net ∷ nets) others one two = absurd one
same_networks (texts ∷ groups) [] others one two = absurd one
same_networks (texts ∷ groups) (net ∷ nets) [] one two = absurd two
same_networks (texts ∷ groups) (net ∷ nets) (other ∷ others) one two =
    ap₂ (λ n ns. n ∷ ns) (one_network texts net other one.0 two.0) (same_networks groups nets others one.1 two.1)

-- the names of the first network ascend
pub first_ascends : (groups : List (List (List ℕ))) (net : Network) (others : List Network) → GiveNetworks groups (net ∷ others) →
    NamesAscend net
first_ascends [] net others gives = absurd gives
first_ascends (texts ∷ groups) net others gives = gives.0.make.network.ascending

-- where they give networks none is refused
pub none_refuses : {refusal : NetRefusal} {groups : List (List (List ℕ))} (nets : List Network) → GiveNetworks groups nets →
    refusal ≢ OutOfMemory → RefusesFirst refusal groups → ⊥
none_refuses [] gives told (here _ _ _) = gives
none_refuses [] gives told (later _ _ _) = gives
none_refuses {refusal = refusal} (net ∷ nets) gives told (here {texts = texts} configs read refuses) =
    refused_or_given texts net configs refusal gives.0 read refuses told
none_refuses (net ∷ nets) gives told (later _ _ rest) = none_refuses nets gives.1 told rest

-- the first that is refused is refused in one way
pub one_first_refusal : {one other : NetRefusal} {groups : List (List (List ℕ))} → one ≢ OutOfMemory → other ≢ OutOfMemory →
    RefusesFirst one groups → RefusesFirst other groups → one ≡ other
one_first_refusal {one = one} {other = other} told tell (here {texts = texts} all read refuses) (here again reads refuse) =
    Refuses-unique again one other told tell (subst (Refuses one) (one_reading texts all again read reads) refuses) refuse
one_first_refusal {one = one} told tell (here {texts = texts} all read refuses) (later net gives _) =
    absurd (refused_or_given texts net all one gives read refuses told)
one_first_refusal {other = other} told tell (later net gives _) (here {texts = texts} all read refuses) =
    absurd (refused_or_given texts net all other gives read refuses tell)
one_first_refusal told tell (later _ _ rest) (later _ _ more) = one_first_refusal told tell rest more

-- ---- two texts, each a group ----

pub one_read : (text : List ℕ) (configs : List Configuration) → ReadsText text configs → ReadsTexts (alone text) configs
one_read text configs reads = record { one = configs; others = []; reads = reads; rest = refl; all = sym (append-nil configs) }

module _ (texts : List (List ℕ)) (olds news : List Configuration) (both : ReadsBoth texts olds news) where
  pub both_read : ReadsTexts texts (olds ++ news)
  both_read =
      subst (λ (some : List (List ℕ)). ReadsTexts some (olds ++ news)) (sym both.texts_are)
      (reads_append (alone both.old) (alone both.new) olds news (one_read both.old olds both.reads_old) (one_read both.new news both.reads_new))

  module _ (kind : CommandKind) (over : OverNetworks kind) where
    groups_are : groups_of kind texts ≡ alone both.old ∷ alone both.new ∷ []
    groups_are = ap (groups_of kind) both.texts_are ∙ two_groups kind both.old both.new over

    pub first_refuses : (refusal : NetRefusal) → Refuses refusal olds → RefusesFirst refusal (groups_of kind texts)
    first_refuses refusal refuses = subst (RefusesFirst refusal) (sym groups_are) (here olds (one_read both.old olds both.reads_old) refuses)

    pub second_refuses : (net : Network) (refusal : NetRefusal) → MakeNetwork olds net → Refuses refusal news →
        RefusesFirst refusal (groups_of kind texts)
    second_refuses net refusal make refuses =
        subst (RefusesFirst refusal) (sym groups_are)
        (later net (record { configs = olds; read = one_read both.old olds both.reads_old; make = make })
        (here news (one_read both.new news both.reads_new) refuses))

    pub gives_two : (net other : Network) → MakeNetwork olds net → MakeNetwork news other → GiveNetworks (groups_of kind texts) (net ∷ other ∷ [])
    gives_two net other make makes =
        subst (λ (groups : List (List (List ℕ))). GiveNetworks groups (net ∷ other ∷ [])) (sym groups_are) (
          record { configs = olds; read = one_read both.old olds both.reads_old; make = make },
          (record { configs = news; read = one_read both.new news both.reads_new; make = makes }, tt),
        )
