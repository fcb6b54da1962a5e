-- The view of a site, read and changed.
use Rattle.std.proofs.Common.{◌≡◌, ℕ, ◌+◌, ◌*◌, ◌<◌, List, [], ◌∷◌, ◌++◌, map, length, get_or, take, set, replicate, Option, sym, refl, ap, ◌∙◌, arith}
use Rattle.std.specs.List.{range_with_len, slice_get}
use Rattle.std.proofs.lemmas.List.FromFn.{length-map-range_with_len, get_or-map-range_with_len}
use Rattle.std.proofs.lemmas.List.{get_or-set_same, get_or-set_other, get_or_push, get_or_append_left, get_or-replicate, length-set, length_push, length-replicate}
use Rattle.base.specs.Bounded.{listed}
use Rattle.protocol.specs.declared.records.Change.{Change}
use Rattle.protocol.specs.declared.records.Gateway.{Gateway}
use Rattle.protocol.specs.declared.records.Message.{Message}
use Rattle.protocol.specs.declared.records.Note.{Note}
use Rattle.protocol.specs.declared.records.Update.{Update}
use Rattle.protocol.specs.declared.records.Cell.{Cell}
use Rattle.protocol.specs.declared.records.State.TheVariants.{Open}
use Rattle.carrier.specs.Meaning.{Meaning}
use Rattle.protocol.specs.Calls.{opened, after_open, initial_cell, started}
use Rattle.protocol.specs.View.{View, ChangeView, GatewayView, Room, no_change, change_at, no_gateway, gateway_at, cell_at, with_changes, with_change}
use Rattle.site.specs.declared.site.Site.{Site}
use Rattle.site.specs.State.{ChangesBecome, ChangeSet, ChangeAdded}
use Rattle.site.specs.Tables.{row, blank_change, blank_gateway, change_of, gateway_of, view, change_count, gateway_count, message_count, record_of}
use Rattle.site.proofs.RowLaws.{nth_row, map_set, map_push, map_constant}

-- a view is its parts
made_of : {V : Type 0} → List Message → List (ChangeView V) → List (GatewayView V) → ℕ → ℕ → Room → View V
made_of ms cs gs n l r = record { messages = ms; changes = cs; gateways = gs; settings = n; limit = l; room = r }

same_view : {V : Type 0} (v w : View V) → v.messages ≡ w.messages → v.changes ≡ w.changes → v.gateways ≡ w.gateways → v.settings ≡ w.settings → v.limit ≡ w.limit → v.room ≡ w.room → v ≡ w
unfolding made_of
same_view {V} v w messages changes gateways settings limit room =
    let same : made_of v.messages v.changes v.gateways v.settings v.limit v.room ≡ made_of w.messages w.changes w.gateways w.settings w.limit w.room = cc in
    same

module _ {V : Type 0} (s : Site V) (ns : List (Note V)) (us : List (Update V)) (xs : List (Cell V)) where
  pub messages_count : length (view s ns us xs).messages ≡ message_count s
  unfolding view
  messages_count = refl

  pub changes_count : length (view s ns us xs).changes ≡ change_count s
  unfolding view
  changes_count = length-map-range_with_len (λ k. change_of (get_or (listed s.changes) k blank_change) (row 16 k ns) (row 8 k us)) 0 (change_count s)

  pub gateways_count : length (view s ns us xs).gateways ≡ gateway_count s
  unfolding view
  gateways_count = length-map-range_with_len (λ g. gateway_of (get_or (listed s.gateways) g blank_gateway) (row s.settings g xs)) 0 (gateway_count s)

  pub change_is : (k : ℕ) → k < change_count s → change_at (view s ns us xs) k ≡ change_of (record_of s k) (row 16 k ns) (row 8 k us)
  unfolding view
  change_is k h = get_or-map-range_with_len (λ j. change_of (get_or (listed s.changes) j blank_change) (row 16 j ns) (row 8 j us)) 0 (change_count s) k k no_change h (omega arith)

  pub gateway_is : (g : ℕ) → g < gateway_count s → gateway_at (view s ns us xs) g ≡ gateway_of (get_or (listed s.gateways) g blank_gateway) (row s.settings g xs)
  unfolding view
  gateway_is g h = get_or-map-range_with_len (λ j. gateway_of (get_or (listed s.gateways) j blank_gateway) (row s.settings j xs)) 0 (gateway_count s) g g no_gateway h (omega arith)

  -- a cell of a gateway lies in the table of cells
  pub cell_is : (g st : ℕ) → g < gateway_count s → st < s.settings → cell_at (view s ns us xs) g st ≡ slice_get xs (s.settings * g + st)
  cell_is g st h l = ap (λ z. slice_get z.cells st) (gateway_is g h) ∙ nth_row s.settings g st xs l

  -- the gateways' part stays where only changes become others
  gateways_stay : (t : Site V) (cs : List Change) → ChangesBecome s t cs → (view t ns us xs).gateways ≡ (view s ns us xs).gateways
  unfolding view
  gateways_stay t cs q =
      ap (λ gs. map (λ g. gateway_of (get_or gs g blank_gateway) (row t.settings g xs)) (range_with_len 0 (length gs))) q.gateways_are
      ∙ ap (λ w. map (λ g. gateway_of (get_or (listed s.gateways) g blank_gateway) (row w g xs)) (range_with_len 0 (gateway_count s))) q.settings_are

  module _ (t : Site V) (ns' : List (Note V)) (us' : List (Update V)) (c : Change) (notes-long : length ns' ≡ length ns) (updates-long : length us' ≡ length us) where
    -- one change is another, and the rows of the others are as they were
    pub view_set : (k : ℕ) (c' : ChangeView V) → k < change_count s → ChangeSet s k c t → ((j : ℕ) → (j ≡ k → ⊥) → row 16 j ns' ≡ row 16 j ns) → ((j : ℕ) → (j ≡ k → ⊥) → row 8 j us' ≡ row 8 j us) → change_of c (row 16 k ns') (row 8 k us') ≡ c' → view t ns' us' xs ≡ with_change (view s ns us xs) k c'
    unfolding view
    view_set k c' h q same_notes same-updates e =
        let f : ℕ → ChangeView V = λ j. change_of (get_or (listed s.changes) j blank_change) (row 16 j ns) (row 8 j us) in
        let f' : ℕ → ChangeView V = λ j. change_of (get_or (set (listed s.changes) k c) j blank_change) (row 16 j ns') (row 8 j us') in
        let z : map f' (range_with_len 0 (change_count s)) ≡ set (map f (range_with_len 0 (change_count s))) k c' = map_set f f' (change_count s) k c' h
        (ap (λ x. change_of x (row 16 k ns') (row 8 k us')) (get_or-set_same (listed s.changes) k c blank_change h) ∙ e)
        (λ j _ n. ap (λ x. change_of x (row 16 j ns') (row 8 j us')) (get_or-set_other (listed s.changes) k j c blank_change n) ∙ ap (λ y. change_of (get_or (listed s.changes) j blank_change) y (row 8 j us')) (same_notes j n) ∙ ap (λ y. change_of (get_or (listed s.changes) j blank_change) (row 16 j ns) y) (same-updates j n)) in
        let changes_are = ap (λ cs. map (λ j. change_of (get_or cs j blank_change) (row 16 j ns') (row 8 j us')) (range_with_len 0 (length cs))) q.changes_are ∙ ap (λ n. map f' (range_with_len 0 n)) (length-set (listed s.changes) k c) ∙ z in
        same_view _ _ q.messages_are changes_are (gateways_stay t (set (listed s.changes) k c) q) q.settings_are q.limit_is (cc)

  -- there is one change more, with no notes and no updates
  pub view_add : (t : Site V) (c : Change) (c' : ChangeView V) → ChangeAdded s c t → change_of c (row 16 (change_count s) ns) (row 8 (change_count s) us) ≡ c' → view t ns us xs ≡ with_changes (view s ns us xs) ((view s ns us xs).changes ++ (c' ∷ []))
  unfolding view
  view_add t c c' q e =
      let cs = listed s.changes in
      let n = change_count s in
      let f : ℕ → ChangeView V = λ j. change_of (get_or cs j blank_change) (row 16 j ns) (row 8 j us) in
      let f' : ℕ → ChangeView V = λ j. change_of (get_or (cs ++ (c ∷ [])) j blank_change) (row 16 j ns) (row 8 j us) in
      let z : map f' (range_with_len 0 (n + 1)) ≡ map f (range_with_len 0 n) ++ (c' ∷ []) = map_push f f' n c'
      (ap (λ x. change_of x (row 16 n ns) (row 8 n us)) (get_or_push cs c blank_change n refl) ∙ e)
      (λ j b. ap (λ x. change_of x (row 16 j ns) (row 8 j us)) (get_or_append_left cs (c ∷ []) blank_change j b)) in
      let changes_are = ap (λ ds. map (λ j. change_of (get_or ds j blank_change) (row 16 j ns) (row 8 j us)) (range_with_len 0 (length ds))) q.changes_are ∙ ap (λ m. map f' (range_with_len 0 m)) (length_push cs c) ∙ z in
      same_view _ _ q.messages_are changes_are (gateways_stay t (cs ++ (c ∷ [])) q) q.settings_are q.limit_is refl

  -- a change opens at a gateway
  pub view_open : (t : Site V) (g : ℕ) → g < gateway_count s → ChangeAdded s (record { home = g; opening = (get_or (listed s.gateways) g blank_gateway).tip; notes = 0; updates = 0; state = Open }) t → view t ns us xs ≡ after_open (view s ns us xs) g
  unfolding after_open
  view_open t g known q =
      let opens : Option ℕ → ChangeView V = λ o. record { home = g; opening = o; notes = []; updates = []; state = Open } in
      view_add t _ (opened (view s ns us xs) g) q (ap opens (sym (ap (λ x. x.tip) (gateway_is g known))))

  -- nothing has happened yet, and every gateway holds the initial values
  pub view_started : (m : Meaning) (settings limit : ℕ) (initial : List V) (room : Room) → listed s.messages ≡ [] → listed s.changes ≡ [] → listed s.gateways ≡ replicate m.gateways blank_gateway → s.settings ≡ settings → s.limit ≡ limit → ((g : ℕ) → g < m.gateways → row settings g xs ≡ map initial_cell (take settings initial)) → record { cells = length xs; notes = length ns; updates = length us } ≡ room → view s ns us xs ≡ started m settings limit initial room
  unfolding view started
  view_started m settings limit initial room no_messages no_changes followers settings_are limit_is full rooms =
      let gw : List Gateway → ℕ → ℕ → GatewayView V = λ gs w g. gateway_of (get_or gs g blank_gateway) (row w g xs) in
      let all = replicate m.gateways blank_gateway in
      let cells = map initial_cell (take settings initial) in
      same_view _ _
      no_messages
      (ap (λ cs. map (λ k. change_of (get_or cs k blank_change) (row 16 k ns) (row 8 k us)) (range_with_len 0 (length cs))) no_changes)
      (ap (λ w. map (gw (listed s.gateways) w) (range_with_len 0 (gateway_count s))) settings_are
      ∙ ap (λ gs. map (gw gs settings) (range_with_len 0 (length gs))) followers
      ∙ ap (λ n. map (gw all settings) (range_with_len 0 n)) (length-replicate m.gateways blank_gateway)
      ∙ map_constant (gw all settings) m.gateways (gateway_of blank_gateway cells) (λ g h. ap (λ x. gateway_of x (row settings g xs)) (get_or-replicate m.gateways g blank_gateway blank_gateway h) ∙ ap (gateway_of blank_gateway) (full g h)))
      settings_are limit_is rooms
