-- A batch is the give-outs that it equals: the group after it, and what is written down of it, are those after so many steps. Assumes nothing.
use Prim.Native.Nat.{ℕ, zero, suc}
use mathlib.Core.Bool.{Bool, true, false, cond, ◌&&◌}
use mathlib.Core.List.{List, [], ◌∷◌, ◌++◌, append-nil, append_assoc}
use mathlib.Core.Option.{some}
use mathlib.Core.Path.{◌≡◌, refl, ap, sym, subst, ◌∙◌}
use lib.Dec.{eqb}
use lib.ListN.{length, replicate}
use borrow.Author.Tests.{eq-eqb, eqb-true}
use Rattle.views.specs.declared.View.{View}
use Rattle.views.specs.Views.{same}
use Rattle.messages.specs.declared.Message.{Message}
use Rattle.endpoint.specs.declared.EndPoint.{EndPoint}
use Rattle.endpoint.specs.Numbers.{verdict, settle, settle_area}
use Rattle.endpoint.specs.Give.{Given, give_checks, gives_next, give_one, give_many, batch_number, batch}
use Rattle.endpoint.specs.Steps.{give_out, checks, effect, stored, step, area_after}
use Rattle.group.specs.Group.{Desk, Group, GroupStep, take, take_batch, put, is_receive, answer, desk_after, is_accepted, sent_to, with_sent, takes, takes_batch, if_there, next, run}
use Rattle.group.specs.Logs.{Log, Logs, gives_out, entry, log_step, log_batch, log_there, log_next, logs_from}

-- ---- what stands at a number

module _ {A : Type 0} (k : ℕ) (f : ℕ → A) where
  put_there : (x : A) → put k x f k ≡ x
  unfolding put
  put_there x = rw (eq-eqb k k refl)

  put_same : (x : A) → f k ≡ x → put k x f ≡ f
  unfolding put
  put_same x h = λ i n. go n (eqb n k) refl i
    where
      go : (n : ℕ) (b : Bool) → eqb n k ≡ b → cond (eqb n k) x (f n) ≡ f n
      go n true e = rw (e, eqb-true n k e) (sym h)
      go n false e = rw e

  put_put : (x y : A) → put k y (put k x f) ≡ put k y f
  unfolding put
  put_put x y = λ i n. go n (eqb n k) refl i
    where
      go : (n : ℕ) (b : Bool) → eqb n k ≡ b → cond (eqb n k) y (cond (eqb n k) x (f n)) ≡ cond (eqb n k) y (f n)
      go n true e = rw e
      go n false e = rw e

-- ---- one give-out

-- the desk with this end-point
abbrev with_ep : EndPoint → Desk → Desk
with_ep e d = record { ep = e; area = d.area }

module _ (p q : ℕ) (d : Desk) where
  quiet : (n : ℕ) → sent_to (answer (give_out q) d) n ≡ false
  unfolding sent_to answer step settle checks effect gives_next
  quiet n = go (eqb (verdict (give_checks d.ep d.area q)) 0) refl
    where
      go : (b : Bool) → eqb (verdict (give_checks d.ep d.area q)) 0 ≡ b → sent_to (answer (give_out q) d) n ≡ false
      go true e = rw e
      go false e = rw e

  sends_none : (c : ℕ → ℕ → List Message) → with_sent p (answer (give_out q) d) c ≡ c
  unfolding with_sent
  sends_none c = put_same p c _ (sym (λ i n. row n i))
    where
      row : (n : ℕ) → cond (sent_to (answer (give_out q) d) n) (c p n ++ ((answer (give_out q) d).message ∷ [])) (c p n) ≡ c p n
      row n = rw (quiet n)

  one_desk : desk_after (give_out q) d ≡ with_ep (give_one d.ep d.area q).ep d
  unfolding desk_after answer step checks effect area_after settle_area stored give_one
  one_desk = go (eqb (verdict (give_checks d.ep d.area q)) 0) refl
    where
      go : (b : Bool) → eqb (verdict (give_checks d.ep d.area q)) 0 ≡ b → desk_after (give_out q) d ≡ with_ep (give_one d.ep d.area q).ep d
      go true e = rw e
      go false e = rw e

  one_next : (g : Group) → g.desks p ≡ some d
      → next (take p (give_out q)) g ≡ record { desks = put p (some (with_ep (give_one d.ep d.area q).ep d)) g.desks; channel = g.channel }
  unfolding next is_receive if_there takes
  one_next g h = rw (h, one_desk, sends_none g.channel)

-- ---- so many give-outs

module _ (p q : ℕ) where
  -- k give-outs of p from q
  abbrev pub give_outs : ℕ → List GroupStep
  give_outs k = replicate k (take p (give_out q))

  -- the group with this end-point at p, whose desk is d
  abbrev with_desk : EndPoint → Desk → Group → Group
  with_desk e d g = record { desks = put p (some (with_ep e d)) g.desks; channel = g.channel }

  abbrev words_of : ℕ → Desk → List ℕ
  words_of n d = (give_many d.ep d.area q n).words

  abbrev ep_of : ℕ → Desk → EndPoint
  ep_of n d = (give_many d.ep d.area q n).ep

  abbrev first : Desk → Desk
  first d = with_ep (give_one d.ep d.area q).ep d

  none_run : (d : Desk) (g : Group) → g.desks p ≡ some d → g ≡ with_desk d.ep d g
  none_run d g h = sym (λ i. record { desks = put_same p g.desks (some d) h i; channel = g.channel })

  there : (d : Desk) (g : Group) → g.desks p ≡ some d → (next (take p (give_out q)) g).desks p ≡ some (first d)
  there d g h = ap (λ (x : Group). x.desks p) (one_next p q d g h) ∙ put_there p g.desks (some (first d))

  more_run : (e : EndPoint) (d : Desk) (g : Group) → g.desks p ≡ some d → with_desk e (first d) (next (take p (give_out q)) g) ≡ with_desk e d g
  more_run e d g h =
      ap (λ (x : Group). with_desk e (first d) x) (one_next p q d g h)
      ∙ (λ i. record { desks = put_put p g.desks (some (first d)) (some (with_ep e d)) i; channel = g.channel })

  -- the first of them is accepted, and more follow
  many_yes : (n : ℕ) (d : Desk) → eqb (give_one d.ep d.area q).number 0 ≡ true
      → give_many d.ep d.area q (suc n) ≡ record { ep = ep_of n (first d); words = (give_one d.ep d.area q).word ∷ words_of n (first d) }
  unfolding give_many
  many_yes n d e = rw (e, give_many)

  -- or it is refused
  many_no : (n : ℕ) (d : Desk) → eqb (give_one d.ep d.area q).number 0 ≡ false → give_many d.ep d.area q (suc n) ≡ record { ep = d.ep; words = [] }
  unfolding give_many
  many_no n d e = rw (e, give_many)

  -- as many give-outs as words were given leave that end-point
  abbrev Runs : Given → Desk → Group → Type 0
  Runs x d g = run (give_outs (length x.words)) g ≡ with_desk x.ep d g

  next_run : (n : ℕ) (d : Desk) (g : Group) → g.desks p ≡ some d → Runs (give_many (first d).ep d.area q n) (first d) (next (take p (give_out q)) g)
      → (b : Bool) → eqb (give_one d.ep d.area q).number 0 ≡ b → Runs (give_many d.ep d.area q (suc n)) d g
  unfolding run
  next_run n d g h more true e = subst (λ (x : Given). Runs x d g) (sym (many_yes n d e)) (more ∙ more_run (ep_of n (first d)) d g h)
  next_run n d g h more false e = subst (λ (x : Given). Runs x d g) (sym (many_no n d e)) (none_run d g h)

  many_run : (n : ℕ) (d : Desk) (g : Group) → g.desks p ≡ some d → Runs (give_many d.ep d.area q n) d g
  unfolding run give_many
  many_run zero d g h = none_run d g h
  many_run (suc n) d g h = next_run n d g h (many_run n (first d) (next (take p (give_out q)) g) (there d g h)) (eqb (give_one d.ep d.area q).number 0) refl

  -- the group after a batch
  pub batch_run : (room : ℕ) (d : Desk) (g : Group) → g.desks p ≡ some d
      → run (give_outs (length (batch d.ep d.area q room).words)) g ≡ next (take_batch p q room) g
  unfolding batch next if_there takes_batch run
  batch_run room d g h = rw h (go (eqb (batch_number d.ep d.area q) 0) refl)
    where
      go : (b : Bool) → eqb (batch_number d.ep d.area q) 0 ≡ b → Runs (batch d.ep d.area q room) d g
      go true e = rw e (many_run room d g h)
      go false e = rw e (none_run d g h)

  -- ---- and the logs

  -- nothing more given out of q
  no_more : (v : View) (l : Log) → l ≡ gives_out v q [] l
  unfolding gives_out
  no_more v l = sym (λ i. record { accepted = l.accepted; given = λ u r. go (same u v && eqb r q) (l.given u r) i; moved = l.moved })
    where
      go : (b : Bool) (ws : List ℕ) → cond b (ws ++ []) ws ≡ ws
      go true ws = append-nil ws
      go false ws = refl

  -- one word, and then others
  one_more : (v : View) (w : ℕ) (words : List ℕ) (l : Log) → gives_out v q words (gives_out v q (w ∷ []) l) ≡ gives_out v q (w ∷ words) l
  unfolding gives_out
  one_more v w words l = λ i. record { accepted = l.accepted; given = λ u r. go (same u v && eqb r q) (l.given u r) i; moved = l.moved }
    where
      go : (b : Bool) (ws : List ℕ) → cond b (cond b (ws ++ (w ∷ [])) ws ++ words) (cond b (ws ++ (w ∷ [])) ws) ≡ cond b (ws ++ (w ∷ words)) ws
      go true ws = append_assoc ws (w ∷ []) words
      go false ws = refl

  -- a give-out leaves the view
  same_view : (d : Desk) → (first d).ep.current ≡ d.ep.current
  unfolding give_one settle gives_next
  same_view d = go (eqb (verdict (give_checks d.ep d.area q)) 0) refl
    where
      go : (b : Bool) → eqb (verdict (give_checks d.ep d.area q)) 0 ≡ b → (first d).ep.current ≡ d.ep.current
      go true e = rw e
      go false e = rw e

  -- the first of them in the logs
  one_log : (d : Desk) (g : Group) (ls : Logs) → g.desks p ≡ some d → eqb (give_one d.ep d.area q).number 0 ≡ true
      → log_next (take p (give_out q)) g ls ≡ put p (gives_out d.ep.current q ((give_one d.ep d.area q).word ∷ []) (ls p)) ls
  unfolding log_next log_there log_step is_accepted answer step checks effect give_one entry
  one_log d g ls h e = rw (h, e)

  none_log : (v : View) (ls : Logs) → ls ≡ put p (gives_out v q [] (ls p)) ls
  none_log v ls = sym (put_same p ls _ (no_more v (ls p)))

  more_log : (d : Desk) (g : Group) (ls : Logs) (words : List ℕ) → g.desks p ≡ some d → eqb (give_one d.ep d.area q).number 0 ≡ true
      → put p (gives_out (first d).ep.current q words (log_next (take p (give_out q)) g ls p)) (log_next (take p (give_out q)) g ls)
      ≡ put p (gives_out d.ep.current q ((give_one d.ep d.area q).word ∷ words) (ls p)) ls
  more_log d g ls words h e =
      let one : Log = gives_out d.ep.current q ((give_one d.ep d.area q).word ∷ []) (ls p) in
      ap (λ (l : Logs). put p (gives_out (first d).ep.current q words (l p)) l) (one_log d g ls h e)
      ∙ put_put p ls one (gives_out (first d).ep.current q words (put p one ls p))
      ∙ ap (λ (l : Log). put p l ls)
      (ap (λ (l : Log). gives_out (first d).ep.current q words l) (put_there p ls one)
      ∙ ap (λ (v : View). gives_out v q words one) (same_view d)
      ∙ one_more d.ep.current (give_one d.ep d.area q).word words (ls p))

  -- as many give-outs as words were given enter those words
  abbrev Enters : Given → Desk → Group → Logs → Type 0
  Enters x d g ls = logs_from (give_outs (length x.words)) g ls ≡ put p (gives_out d.ep.current q x.words (ls p)) ls

  next_log : (n : ℕ) (d : Desk) (g : Group) (ls : Logs) → g.desks p ≡ some d
      → Enters (give_many (first d).ep d.area q n) (first d) (next (take p (give_out q)) g) (log_next (take p (give_out q)) g ls)
      → (b : Bool) → eqb (give_one d.ep d.area q).number 0 ≡ b → Enters (give_many d.ep d.area q (suc n)) d g ls
  unfolding logs_from
  next_log n d g ls h more true e = subst (λ (x : Given). Enters x d g ls) (sym (many_yes n d e)) (more ∙ more_log d g ls (words_of n (first d)) h e)
  next_log n d g ls h more false e = subst (λ (x : Given). Enters x d g ls) (sym (many_no n d e)) (none_log d.ep.current ls)

  many_log : (n : ℕ) (d : Desk) (g : Group) (ls : Logs) → g.desks p ≡ some d → Enters (give_many d.ep d.area q n) d g ls
  unfolding logs_from give_many
  many_log zero d g ls h = none_log d.ep.current ls
  many_log (suc n) d g ls h =
      next_log n d g ls h (many_log n (first d) (next (take p (give_out q)) g) (log_next (take p (give_out q)) g ls) (there d g h))
      (eqb (give_one d.ep d.area q).number 0) refl

  -- the logs after a batch
  pub batch_logs : (room : ℕ) (d : Desk) (g : Group) (ls : Logs) → g.desks p ≡ some d
      → logs_from (give_outs (length (batch d.ep d.area q room).words)) g ls ≡ log_next (take_batch p q room) g ls
  unfolding batch log_next log_there log_batch logs_from
  batch_logs room d g ls h = rw h (go (eqb (batch_number d.ep d.area q) 0) refl)
    where
      go : (b : Bool) → eqb (batch_number d.ep d.area q) 0 ≡ b → Enters (batch d.ep d.area q room) d g ls
      go true e = rw e (many_log room d g ls h)
      go false e = rw e (none_log d.ep.current ls)
