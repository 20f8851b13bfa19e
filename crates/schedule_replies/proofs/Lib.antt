pub mod RepliesShown
