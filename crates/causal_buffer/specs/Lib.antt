pub mod HeldEntries
