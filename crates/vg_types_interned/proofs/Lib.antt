mod Tables
mod Views
