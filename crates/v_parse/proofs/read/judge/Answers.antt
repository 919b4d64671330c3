use Rattle.std.proofs.Common.{◌≡◌, ℕ, [], ◌∷◌, Option, subst}
use Rattle.node_depth.specs.Nodes.{count, Deep}
use Rattle.node_depth.specs.Weaves.{Look, woven}
use Rattle.v_grammar.specs.declared.TheConstants.{WEAVES}
use Rattle.v_parse.proofs.Judging.{builds, depth_refused, has_tree}
use Rattle.v_parse.proofs.read.judge.Goals as goal

pub build-requires-clause-builds : goal.build-requires-clause-builds
build-requires-clause-builds c = builds c.args.text.now c.args.tokens.now c.args.steps.now c.requires.tokens c.requires.derived

pub returns-in-Some-clause-refused : goal.returns-in-Some-clause-refused
returns-in-Some-clause-refused c =
    let told = λ (l : Look) (w : woven WEAVES c.args.steps.now [] ≡ l ∷ []) (o : count l.trees ≡ 1). subst (λ (r : Option ℕ). Deep 256 l.trees r) c.in-Some.is (c.in_ok-token.ensures l w o) in
    depth_refused c.args.text.now c.args.tokens.now c.args.steps.now c.requires.tokens c.requires.derived c.in-Some.token c.refusal.result told c.refusal.ensures

pub returns-in_ok-build-in-None-clause-read : goal.returns-in_ok-build-in-None-clause-read
returns-in_ok-build-in-None-clause-read c =
    let told = λ (l : Look) (w : woven WEAVES c.args.steps.now [] ≡ l ∷ []) (o : count l.trees ≡ 1). subst (λ (r : Option ℕ). Deep 256 l.trees r) c.in-None.is (c.in_ok-token.ensures l w o) in
    has_tree c.args.text.now c.args.tokens.now c.args.steps.now c.requires.tokens c.requires.derived c.in_ok-build-in-None.field-0 c.in_ok-build-in-None.ensures told
